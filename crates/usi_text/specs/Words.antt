-- Words: the longest runs of bytes without a space.
use Rattle.std.specs.Prelude.{◌≡◌, ℕ, ◌==◌, Bool, true, false, List, [], ◌∷◌, ◌++◌, slice_index_or}
use Rattle.std.specs.List.{filter, slice_split}
use Prim.Native.Char.{code}

abbrev pub has_bytes : List ℕ → Bool
has_bytes [] = false
has_bytes (b ∷ bs) = true

-- the text split at each space, without the empty parts
abbrev pub words : List ℕ → List (List ℕ)
words text = filter has_bytes (slice_split (λ b. b == code " ") text)

-- the nth word, counted from 0; if there are fewer, the empty text, which is not a word
abbrev pub nth_word : List (List ℕ) → ℕ → List ℕ
nth_word ws n = slice_index_or ws n []

-- nothing, or a text that begins with a space
abbrev pub EndsWord : List ℕ → Type 0
EndsWord [] = Unit {0}
EndsWord (b ∷ bs) = b ≡ code " "

-- the rest of a text after a word's end
abbrev pub IsAfter : List ℕ → List ℕ → Type 0
IsAfter text rest = (front : List ℕ) × (text ≡ front ++ rest) × EndsWord rest
