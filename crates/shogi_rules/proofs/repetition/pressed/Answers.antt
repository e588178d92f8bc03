use Rattle.std.proofs.Common.{◌≡◌, true, false, arith, inl, inr, refl}
use Rattle.std.proofs.lemmas.Bool.{cases_lt}
use Rattle.shogi_rules.specs.Repetition.{PressedAt}
use Rattle.shogi_rules.proofs.repetition.pressed.Goals as goal

pub returns-then-not-gave_check : goal.returns-then-not-gave_check
returns-then-not-gave_check c = λ ps are. (
  λ h. cc,
  λ all.
      let yes : c.gave_check.result ≡ true = (c.gave_check.ensures ps are).1 (all c.loop-place.place (omega arith) (omega arith)) in
      let no : c.gave_check.result ≡ false = grind arith in
      cc,
)

pub loop-place-preserved : goal.loop-place-preserved
loop-place-preserved c = λ ps are k low high.
    elim (cases_lt k c.loop-place.place) as (λ _. PressedAt ps c.args.color k) [
      | inl lt ↦ c.loop-place.invariant ps are k low lt
      | inr ge ↦
          let e : c.loop-place.place ≡ k = omega arith in
          let yes : c.gave_check.result ≡ true = grind arith in
          let here : PressedAt ps c.args.color c.loop-place.place = (c.gave_check.ensures ps are).0 yes in
          rw e at here
    ]

pub returns : goal.returns
returns c = λ ps are. (λ _ k low high. c.loop-place.invariant ps are k low (omega arith), λ _. refl)
