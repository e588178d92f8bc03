-- The lines of bytes.
use Rattle.std.specs.Prelude.{◌≡◌, ℕ, ◌<◌, ◌==◌, ◌||◌, Bool, true, false, List, [], ◌∷◌, ◌++◌, length}
use Rattle.std.specs.List.{AllByRecursion}

-- CR, LF
abbrev pub is_line_end : ℕ → Bool
is_line_end b = b == 13 || b == 10

abbrev pub AreLineEnds : List ℕ → Type 0
AreLineEnds bytes = AllByRecursion (λ b. is_line_end b ≡ true) bytes

abbrev pub HasNoLineEnd : List ℕ → Type 0
HasNoLineEnd bytes = AllByRecursion (λ b. is_line_end b ≡ false) bytes

abbrev pub BeginsWithLineEnd : List ℕ → Type 0
BeginsWithLineEnd [] = ⊥
BeginsWithLineEnd (b ∷ bytes) = is_line_end b ≡ true

-- the bytes are line ends, the line, and what follows it, which begins with CR or LF
pub record IsNextLine (bytes line following : List ℕ) : Type 0 where
  pub ends : List ℕ
  pub whole : bytes ≡ ends ++ (line ++ following)
  pub skipped : AreLineEnds ends
  pub some : 0 < length line
  pub run : HasNoLineEnd line
  pub closed : BeginsWithLineEnd following

-- these lines have ended in the bytes, one after another, and the rest after them has not
abbrev pub Lines : List ℕ → List (List ℕ) → List ℕ → Type 0
Lines bytes [] rest = (ends : List ℕ) × (bytes ≡ ends ++ rest) × AreLineEnds ends
    × HasNoLineEnd rest
Lines bytes (line ∷ lines) rest = (following : List ℕ) × IsNextLine bytes line following
    × Lines following lines rest
