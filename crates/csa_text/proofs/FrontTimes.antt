-- A time at the front of a piece.
use Rattle.std.proofs.Common.{◌≡◌, ℕ, suc, ◌+◌, ◌*◌, ◌<◌, ◌≤◌, false, List, [], ◌∷◌, length, take, drop, arith, refl, subst, sym, ◌∙◌, inl}
use Rattle.std.specs.List.{AllByRecursion}
use Rattle.std.specs.Char.{digit_value}
use Rattle.std.specs.Str.Parse.{AllDigits}
use Rattle.std.proofs.lemmas.List.{length-take-le}
use Rattle.csa_cutting.specs.Cut.{is_separator}
use Rattle.csa_cutting.specs.PieceSteps.{IsWord}
use Rattle.csa_text.specs.Fields.{EndsDigits, IsNumber}
use Rattle.csa_text.specs.TimeTexts.{IsTime}
use Rattle.csa_text.proofs.Moments.{below_power, differs}

cr : digit_value 13 < 10 → ⊥
cr h = omega arith

lf : digit_value 10 < 10 → ⊥
lf h = omega arith

comma : digit_value 44 < 10 → ⊥
comma h = omega arith

space : digit_value 32 < 10 → ⊥
space h = omega arith

tab : digit_value 9 < 10 → ⊥
tab h = omega arith

no_separator : (b : ℕ) → digit_value b < 10 → is_separator b ≡ false
no_separator b h = rw (differs b 13 h cr, differs b 10 h lf, differs b 44 h comma, differs b 32 h space, differs b 9 h tab) refl

no_separators : (digits : List ℕ) → AllDigits 10 digits → AllByRecursion (λ b. is_separator b ≡ false) digits
no_separators [] h = tt
no_separators (d ∷ ds) h = (no_separator d h.0, no_separators ds h.1)

front_bytes : (first count : ℕ) (piece text : List ℕ) → piece ≡ first ∷ text → first ≡ 84 → take (count + 1) piece ≡ 84 ∷ take count text
front_bytes first count piece text whole is =
    let up : count + 1 ≡ suc count = omega arith in
    rw (up, whole, is) refl

pub front_word : (first count : ℕ) (piece text : List ℕ) → piece ≡ first ∷ text → first ≡ 84 → AllDigits 10 (take count text) → IsWord (take (count + 1) piece)
front_word first count piece text whole is digits =
    subst IsWord (sym (front_bytes first count piece text whole is)) (refl, (refl, no_separators (take count text) digits))

pub front_spells : (first count value : ℕ) (piece text : List ℕ) → piece ≡ first ∷ text → first ≡ 84 → count ≤ length text → 0 < count → IsNumber 0 9 (take count text) value → (x : List ℕ) × (take (count + 1) piece ≡ 84 ∷ x) × IsTime x (value * 1000)
front_spells first count value piece text whole is within some n =
    let digits = take count text in
    let long : length digits ≡ count = length-take-le count text within in (
      digits,
      front_bytes first count piece text whole is,
      inl (
        value,
        (
          record { few = omega (arith, long, some); many = omega arith; digits_only = n.digits_only; value_is = n.value_is },
          omega (arith, n.value_is, below_power digits 9 n.digits_only n.many),
        ),
        refl,
      ),
    )

pub front_ends : (first count : ℕ) (piece text : List ℕ) → piece ≡ first ∷ text → (count < 9 → EndsDigits (drop count text)) → count + 1 < 10 → EndsDigits (drop (count + 1) piece)
front_ends first count piece text whole ends few =
    let up : count + 1 ≡ suc count = omega arith in
    rw (up, whole) (ends (omega arith))

pub none_at_front : (first count : ℕ) (piece text rest : List ℕ) → piece ≡ first ∷ text → (count < 9 → EndsDigits (drop count text)) → count ≡ 0 → piece ≡ 84 ∷ rest → EndsDigits rest
none_at_front first count piece text rest whole ends none is =
    let same : first ∷ text ≡ 84 ∷ rest = sym whole ∙ is in
    let after : text ≡ rest = cc in
    rw (← after) (rw none at ends (omega arith))
