-- What is unfinished at the end.
use Rattle.std.proofs.Common.{◌≡◌, ℕ, zero, suc, ◌+◌, ◌-◌, ◌<◌, ◌≤◌, ◌==◌, true, false, not, List, [], ◌∷◌, ◌++◌, length, take, Option, Some, None, arith, refl, sym, ap, ◌∙◌, subst, inl, inr}
use Rattle.std.proofs.lemmas.Bool.{false≢true, cases_Bool}
use Rattle.csa_cutting.specs.Cut.{TextUnit, IsUnit, Statements, begins_with, byte_order_mark, mark_length, statement_bytes}
use Rattle.csa_cutting.specs.PieceCutting.{PieceCutting, Follows, ToComeWith, IsOpen}
use Rattle.csa_cutting.specs.Places.{IsHeld, begins, open_of, has_unit}
use Rattle.csa_cutting.specs.PieceSteps.{Last}
use Rattle.csa_cutting.specs.declared.cutter.Statement.{Statement}
use Rattle.csa_cutting.specs.declared.units.Place.{Place}
use Rattle.csa_cutting.specs.declared.units.Place.TheVariants.{Mark, Gap, Unit as InUnit, Comment}
use Rattle.csa_cutting.proofs.Fronts.{turned_true, turned_false}
use Rattle.csa_cutting.proofs.Runs.{no_statements, statement_first}
use Rattle.csa_cutting.proofs.LineCutting.{nothing, something}
use Rattle.csa_cutting.proofs.Passing.{after_comment, unit_at}
use Rattle.csa_cutting.proofs.Finding.{without_mark, follows_plain, mark_unit, mark_silent}
use Rattle.csa_cutting.proofs.Leading.{seen}

nothing_to_come : (place : Place) (held : List ℕ) (fed : ℕ) → has_unit place held ≡ false → IsHeld place held → Follows (begins place) fed (open_of place held) [] []
nothing_to_come Mark held fed h is_held =
    let none : held ≡ [] = nothing held (turned_false (length held == 0) h) in
    rw none (no_statements _ [] tt)
nothing_to_come Gap held fed h is_held = no_statements _ [] tt
nothing_to_come InUnit held fed h is_held = absurd (false≢true (sym h))
nothing_to_come Comment held fed h is_held =
    rw is_held (follows_plain fed (fed - 1) (39 ∷ []) [] [] (omega arith) (after_comment (fed - 1) (39 ∷ []) [] [] (refl, tt, tt) refl (no_statements _ [] tt)))

abbrev last_of : List ℕ → ℕ → TextUnit
last_of held fed = record { offset = fed - length held; bytes = held }

alone : (held : List ℕ) (fed : ℕ) → IsUnit held [] → begins_with 39 held ≡ false → Statements (fed - length held) (held ++ []) (last_of held fed ∷ [])
alone held fed unit silent =
    statement_first (fed - length held) (held ++ []) (last_of held fed) [] [] (unit_at (fed - length held) held [] unit) (ap not silent) (no_statements _ [] tt)

part_of_mark : (k : ℕ) → k < 3 → mark_length (take k byte_order_mark ++ []) ≡ 0
part_of_mark zero less = refl
part_of_mark (suc zero) less = refl
part_of_mark (suc (suc zero)) less = refl
part_of_mark (suc (suc (suc k))) less = absurd (omega arith)

unit_to_come : (place : Place) (held : List ℕ) (fed : ℕ) → has_unit place held ≡ true → IsHeld place held → Follows (begins place) fed (open_of place held) [] (last_of held fed ∷ [])
unit_to_come Mark held fed h is_held =
    let some : 0 < length held = something held (turned_true (length held == 0) h) in
    let unit : IsUnit held [] = subst (λ xs. IsUnit xs []) (sym is_held.1) (mark_unit (length held) some is_held.0) in
    let silent : begins_with 39 held ≡ false = ap (begins_with 39) is_held.1 ∙ mark_silent (length held) some in
    let none : mark_length (held ++ []) ≡ 0 = ap (λ xs. mark_length (xs ++ [])) is_held.1 ∙ part_of_mark (length held) is_held.0 in
    without_mark fed (fed - length held) held [] _ none refl (alone held fed unit silent)
unit_to_come Gap held fed h is_held = absurd (false≢true h)
unit_to_come InUnit held fed h is_held = follows_plain fed (fed - length held) held [] _ refl (alone held fed is_held.0 is_held.1)
unit_to_come Comment held fed h is_held = absurd (false≢true h)

pub none_left : (now : PieceCutting) (place : Place) (held : List ℕ) (fed number : ℕ) (refused : Option ℕ) → seen place held fed number refused ≡ now → refused ≡ None → has_unit place held ≡ false → IsHeld place held → (now.refused ≡ None) × ToComeWith now [] [] × (seen Gap held fed number refused ≡ record now { begins = false; unfinished = [] })
none_left now place held fed number refused view none h is_held =
    rw (← view, none) (refl, nothing_to_come place held fed h is_held, refl)

pub one_left : (now : PieceCutting) (place : Place) (held : List ℕ) (fed number : ℕ) (refused : Option ℕ) (s : Statement) → seen place held fed number refused ≡ now → refused ≡ None → has_unit place held ≡ true → IsHeld place held → length held ≤ 4096 → s.number ≡ number + 1 → s.offset ≡ fed - length held → s.bytes.now ≡ statement_bytes held → (now.refused ≡ None) × Last now (Some s) × (seen Gap held fed (number + 1) refused ≡ record now { number = s.number; begins = false; unfinished = [] })
one_left now place held fed number refused s view none h is_held short numbered place_is bytes =
    rw (← view, none, numbered)
    (refl, (last_of held fed, record { number_is = refl; place = place_is; slice = bytes; short = short }, unit_to_come place held fed h is_held), refl)

mark_begins : (k : ℕ) → begins_with 39 (take k byte_order_mark) ≡ true → ⊥
mark_begins zero h = false≢true h
mark_begins (suc k) h = false≢true h

pub none_of_comment : (place : Place) (held : List ℕ) → IsHeld place held → begins_with 39 (open_of place held) ≡ true → held ≡ []
none_of_comment Mark held h t = absurd (mark_begins (length held) (ap (begins_with 39) (sym h.1) ∙ t))
none_of_comment Gap held h t = absurd (false≢true t)
none_of_comment InUnit held h t = absurd (false≢true (sym h.1 ∙ t))
none_of_comment Comment held h t = h

pub is_open : (place : Place) (held : List ℕ) → IsHeld place held → IsOpen (open_of place held)
is_open Mark held h =
    elim (cases_Bool (length held == 0)) [
      | inl t ↦ inl (nothing held t)
      | inr f ↦
          let some : 0 < length held = something held f in
          inr (inr (
            subst (λ xs. IsUnit xs []) (sym h.1) (mark_unit (length held) some h.0),
            ap (begins_with 39) h.1 ∙ mark_silent (length held) some,
          ))
    ]
is_open Gap held h = inl refl
is_open InUnit held h = inr (inr h)
is_open Comment held h = inr (inl (ap (λ xs. 39 ∷ xs) h))
