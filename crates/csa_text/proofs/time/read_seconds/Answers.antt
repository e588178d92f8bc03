use Rattle.std.proofs.Common.{◌≢◌, ◌≤◌, ◌<◌, ℕ, List, length, ◌∷◌, [], arith, Option, Some, None}
use Rattle.std.specs.Prelude.{MatchOption}
use Rattle.csa_text.specs.Fields.{IsNumber}
use Rattle.csa_text.specs.TimeTexts.{IsSeconds}
use Rattle.csa_text.proofs.time.read_seconds.Goals as goal

some_digits : (digits : List ℕ) → length digits ≢ 0 → 1 ≤ length digits
some_digits [] some = absurd (some (omega arith))
some_digits (d ∷ digits) some = omega arith

read : (digits : List ℕ) (r : Option ℕ) → length digits ≢ 0
    → MatchOption r ((value : ℕ) → IsNumber 0 (length digits) digits value → 4294967295 < value) (λ value. IsNumber 0 (length digits) digits value × (value ≤ 4294967295))
    → MatchOption r ((seconds : ℕ) → IsSeconds digits seconds → ⊥) (λ seconds. IsSeconds digits seconds)
read digits None some passes = λ seconds n.
    let over = passes seconds (record { few = omega arith; many = omega arith; digits_only = n.0.digits_only; value_is = n.0.value_is }) in
    omega (arith, over, n.1)
read digits (Some value) some (n, limit) =
    (record { few = omega (arith, some_digits digits some); many = omega arith; digits_only = n.digits_only; value_is = n.value_is }, limit)

pub returns : goal.returns
returns c = read c.args.digits.now c.read_digits.result (grind (arith, c.if-is_empty.ensures)) c.read_digits.ensures
