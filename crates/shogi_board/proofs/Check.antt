-- A side has one king, so it is in check exactly where that one is attacked.
use Rattle.std.proofs.Common.{◌≡◌, ◌↔◌, ◌≤◌, IsTrue, Bool, Option, None, Some, is_some, length, arith, refl, inl, inr}
use Rattle.std.specs.Prelude.{MatchOption}
use Rattle.std.proofs.lemmas.Bool.{cases_eq}
use Rattle.shogi_board.specs.Cells.{Cells, at, piece}
use Rattle.shogi_board.specs.Reach.{Attack, Attacked, Checks, InCheck}
use Rattle.shogi_board.specs.Squares.{place}
use Rattle.shogi_board.specs.Totals.{kings_of, is_king_of}
use Rattle.shogi_board.specs.declared.color.Color.{Color}
use Rattle.shogi_board.specs.declared.kind.Kind.TheVariants.{King}
use Rattle.shogi_board.specs.declared.square.Square.{Square}
use Rattle.shogi_board.proofs.Count.{two-pass}
use Rattle.shogi_board.proofs.Pieces.{is_king_of-king}
use Rattle.shogi_board.proofs.Squares.{place-same, place-bound}

pub one-king : (cells : Cells) (color : Color) (s t : Square) → length cells ≡ 81 → kings_of cells color ≤ 1 → at cells s ≡ piece color King → at cells t ≡ piece color King → t ≡ s
one-king cells color s t whole one h k =
    elim (cases_eq (place t) (place s)) [
      | inl e ↦ place-same t s e
      | inr differ ↦
          let low = place-bound s in
          let high = place-bound t in
          let two : 2 ≤ kings_of cells color = two-pass (is_king_of color) cells (place s) (place t) None refl (omega arith) (omega arith) differ (is_king_of-king color _ h) (is_king_of-king color _ k) in
          absurd (omega (arith, two, one))
    ]

-- a side is in check exactly where its king is attacked
pub king_check : (cells : Cells) (color : Color) (s : Square) (b : Bool) → length cells ≡ 81 → kings_of cells color ≤ 1 → at cells s ≡ piece color King → (IsTrue b ↔ Attacked cells color s) → IsTrue b ↔ InCheck cells color
king_check cells color s b whole one h d = (
  λ yes. (s, h, d.0 yes),
  λ check.
      let e : check.0 ≡ s = one-king cells color s check.0 whole one h check.1 in
      d.1 (rw e at check.2),
)

pub king-safe : (cells : Cells) (color : Color) (s : Square) → length cells ≡ 81 → kings_of cells color ≤ 1 → at cells s ≡ piece color King → (Attacked cells color s → ⊥) → InCheck cells color → ⊥
king-safe cells color s whole one h safe check =
    let e : check.0 ≡ s = one-king cells color s check.0 whole one h check.1 in
    safe (rw e at check.2)

-- an attacker of its king, or none
pub checker-is : (cells : Cells) (color : Color) (s : Square) (found : Option Square) → length cells ≡ 81 → kings_of cells color ≤ 1 → at cells s ≡ piece color King
    → MatchOption found (Attacked cells color s → ⊥) (λ a. Attack cells color a s) → MatchOption found (InCheck cells color → ⊥) (Checks cells color)
checker-is cells color s None whole one h safe = king-safe cells color s whole one h safe
checker-is cells color s (Some a) whole one h attack = (s, h, attack)

-- whether there is one says whether the side is in check
pub checked-by : (cells : Cells) (color : Color) (found : Option Square) (b : Bool) → b ≡ is_some found → MatchOption found (InCheck cells color → ⊥) (Checks cells color) → IsTrue b ↔ InCheck cells color
checked-by cells color None b e free = (λ yes. cc, λ check. absurd (free check))
checked-by cells color (Some a) b e checks = (λ yes. (checks.0, checks.1, (a, checks.2)), λ check. e)
