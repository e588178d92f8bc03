-- The system's words for an error.
use Rattle.std.specs.Prelude.{◌≡◌, ℕ, List, None, codes}
use Rattle.std.specs.Str.Pattern.{FindsText, SplitsAroundMatch}

-- what comes before the error's number, or all of the words if they have none
pub data IsWithoutNumber (words shown : List ℕ) : Type 0 where
  numbered : (number : List ℕ)
      → SplitsAroundMatch (FindsText (codes " (os error ")) words shown number
      → IsWithoutNumber words shown
  unnumbered : FindsText (codes " (os error ") words None → shown ≡ words
      → IsWithoutNumber words shown
