-- Numbers in digits, and texts that a mark separates.
use Rattle.std.specs.Prelude.{◌≡◌, ℕ, ◌+◌, ◌/◌, ◌%◌, ◌≤◌, ◌==◌, false, List, [], ◌∷◌, ◌++◌, length}
use Rattle.std.specs.Char.{digit_value}
use Rattle.std.specs.List.{AllByRecursion}
use Rattle.std.specs.Str.Parse.{AllDigits, digits_value}

-- decimal digits, at least `fewest` and at most `most`, with this value
pub record IsNumber (fewest most : ℕ) (digits : List ℕ) (value : ℕ) : Type 0 where
  pub few : fewest ≤ length digits
  pub many : length digits ≤ most
  pub digits_only : AllDigits 10 digits
  pub value_is : value ≡ digits_value 10 digits

-- the text is empty or begins with no decimal digit
abbrev pub EndsDigits : List ℕ → Type 0
EndsDigits [] = Unit {0}
EndsDigits (b ∷ bytes) = 10 ≤ digit_value b

-- a number below 100 in two digits
abbrev pub two_digits : ℕ → List ℕ
two_digits n = (48 + n / 10) ∷ (48 + n % 10) ∷ []

-- no byte of this value
abbrev pub HasNone : ℕ → List ℕ → Type 0
HasNone mark bytes = AllByRecursion (λ b. (b == mark) ≡ false) bytes

-- what comes before and after the first byte of this value
abbrev pub IsSplit : ℕ → List ℕ → List ℕ → List ℕ → Type 0
IsSplit mark bytes front rest = (bytes ≡ front ++ mark ∷ rest) × HasNone mark front
