-- The time of a move or an ending, in thousandths of a second.
use Rattle.std.specs.Prelude.{◌≡◌, ℕ, ◌+◌, ◌*◌, ◌-◌, ◌/◌, ◌%◌, ◌^◌, ◌≤◌, ◌==◌, ◌⊎◌, List, [], ◌∷◌, ◌++◌, length, if◌then◌else◌}
use Rattle.std.specs.Fmt.{decimal}
use Rattle.csa_text.specs.Fields.{IsNumber, two_digits}

-- one or more decimal digits, of a value of at most 4,294,967,295
abbrev pub IsSeconds : List ℕ → ℕ → Type 0
IsSeconds digits seconds = IsNumber 1 (length digits) digits seconds × (seconds ≤ 4294967295)

-- one to three digits after the point: `5` is 500 thousandths, and `05` is 50
abbrev pub IsFraction : List ℕ → ℕ → Type 0
IsFraction digits thousandths =
    (value : ℕ) × IsNumber 1 3 digits value × (thousandths ≡ value * 10 ^ (3 - length digits))

-- seconds, a point, and a fraction
pub record HasFraction (text : List ℕ) (thousandths : ℕ) : Type 0 where
  pub digits : List ℕ
  pub following : List ℕ
  pub seconds : ℕ
  pub fraction : ℕ
  pub whole : text ≡ digits ++ 46 ∷ following
  pub seconds_are : IsSeconds digits seconds
  pub fraction_is : IsFraction following fraction
  pub value_is : thousandths ≡ seconds * 1000 + fraction

abbrev pub IsWhole : List ℕ → ℕ → Type 0
IsWhole text thousandths = (seconds : ℕ) × IsSeconds text seconds × (thousandths ≡ seconds * 1000)

-- whole seconds, or seconds with a fraction
abbrev pub IsTime : List ℕ → ℕ → Type 0
IsTime text thousandths = IsWhole text thousandths ⊎ HasFraction text thousandths

-- a point and up to three digits, without trailing zeros; zero thousandths give no text
abbrev pub fraction_text : ℕ → List ℕ
fraction_text n =
    if n == 0 then []
    else if n % 100 == 0 then 46 ∷ (48 + n / 100) ∷ []
    else if n % 10 == 0 then 46 ∷ two_digits (n / 10)
    else 46 ∷ (48 + n / 100) ∷ two_digits (n % 100)

-- the canonical text of a time: the seconds without leading zeros, and then the thousandths
abbrev pub time_text : ℕ → List ℕ
time_text t = decimal (t / 1000) ++ fraction_text (t % 1000)
