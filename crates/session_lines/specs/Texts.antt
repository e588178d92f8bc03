-- Lines as bytes.
use Rattle.std.specs.Prelude.{ℕ, ◌==◌, List, [], ◌∷◌, ◌++◌, decimal, if◌then◌else◌}
use Rattle.std.specs.List.{flat_map}
use Rattle.session_lines.specs.LineTexts as texts

-- a line and its line end, LF
abbrev pub ended_line : List ℕ → List ℕ
ended_line line = line ++ 10 ∷ []

abbrev pub text_of : List (List ℕ) → List ℕ
text_of lines = flat_map ended_line lines

-- a byte before what was kept of the bytes after it; a space (32) before nothing is dropped
abbrev pub before_unspaced : ℕ → List ℕ → List ℕ
before_unspaced b [] = if b == 32 then [] else b ∷ []
before_unspaced b (c ∷ cs) = b ∷ c ∷ cs

-- the line without the spaces at its end
abbrev pub without_last_spaces : List ℕ → List ℕ
without_last_spaces [] = []
without_last_spaces (b ∷ bs) = before_unspaced b (without_last_spaces bs)

-- a text, `,T` and the seconds
abbrev pub with_time : List ℕ → ℕ → List ℕ
with_time text seconds = text ++ (texts.time ++ decimal seconds)
