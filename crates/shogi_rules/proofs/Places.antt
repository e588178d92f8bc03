-- What is at a place of a list of positions, and who pressed.
use Rattle.std.proofs.Common.{◌≡◌, ◌↔◌, ℕ, ◌+◌, ◌<◌, IsTrue, Bool, List, [], ◌∷◌, Some, length, slice_get, arith, sym, ◌∙◌, zero, suc, refl}
use Rattle.std.proofs.lemmas.Option.{slice_get_within}
use Rattle.shogi_board.specs.Placed.{Placed}
use Rattle.shogi_board.specs.declared.color.Color.{Color}
use Rattle.shogi_board.specs.declared.color.Color.TheVariants.{Black, White}
use Rattle.shogi_rules.specs.Counting.{AreTurns}
use Rattle.shogi_rules.specs.Repetition.{Pressed, PressedAt}
use Rattle.shogi_rules.specs.Verdicts.{PressedAlone}
use Rattle.shogi_rules.specs.declared.seen.Turn.{Turn}

some-at : (ps : List Placed) (i : ℕ) → i < length ps → (p : Placed) × (slice_get ps i ≡ Some p)
some-at [] i low = absurd (omega (arith, low))
some-at (p ∷ ps) zero low = (p, refl)
some-at (p ∷ ps) (suc i) low = some-at ps i (omega (arith, low))

-- whether the side moved from the place gave check, by the turn after it
pub pressed-at : (ps : List Placed) (turns : List Turn) (place : ℕ) (color : Color) (s t : Turn) → AreTurns ps turns → slice_get turns place ≡ Some s → slice_get turns (place + 1) ≡ Some t → s.side ≡ color → IsTrue t.in_check ↔ PressedAt ps color place
pressed-at ps turns place color s t are here next side =
    let within = slice_get_within turns (place + 1) t next in
    let long = are.long in
    let a = some-at ps place (omega (arith, within, long)) in
    let b = some-at ps (place + 1) (omega (arith, within, long)) in (
      λ h p q hp hq own. (are.each (place + 1) q t hq next).1.0 h,
      λ all. (are.each (place + 1) b.0 t b.1 next).1.1 (all a.0 b.0 a.1 b.1 (sym (are.each place a.0 s a.1 here).0 ∙ side)),
    )

-- where both pressed, or neither did, nobody pressed alone
pub nobody-alone : (ps : List Placed) (first fourth : ℕ) (b w : Bool) → (IsTrue b ↔ Pressed ps first fourth Black) → (IsTrue w ↔ Pressed ps first fourth White) → b ≡ w → (color : Color) → PressedAlone ps first fourth color → ⊥
nobody-alone ps first fourth b w db dw e Black alone = alone.1 (dw.0 (sym e ∙ db.1 alone.0))
nobody-alone ps first fourth b w db dw e White alone = alone.1 (db.0 (e ∙ dw.1 alone.0))
