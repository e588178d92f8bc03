use Rattle.std.proofs.Common.{rules, ◌≡◌, ◌∙◌, ◌<◌, ◌^◌, true, Some, None, set, get_or, get_or-set_other, ap, refl, sym}
use Rattle.shogi_board.specs.Cells.{piece}
use Rattle.shogi_board.specs.Keys.{cell_key}
use Rattle.shogi_board.specs.Material.{Material, bag_of, with_bag}
use Rattle.shogi_board.specs.After.{with_captured}
use Rattle.shogi_board.specs.Pieces.{is_hand_kind, unpromoted}
use Rattle.shogi_board.specs.Reach.{InCheck}
use Rattle.shogi_board.specs.Squares.{place}
use Rattle.shogi_board.specs.Totals.{IsWithinTotals}
use Rattle.shogi_board.specs.declared.color.Color.TheVariants.{Black, White}
use Rattle.shogi_board.specs.declared.kind.Piece.{Piece}
use Rattle.shogi_board.proofs.Keyed.{walked-key}
use Rattle.shogi_board.proofs.Marks.{fewer-kings}
use Rattle.shogi_board.proofs.Moved.{put-back, walk-back, black-passed, white-passed}
use Rattle.shogi_board.proofs.Squares.{place-bound}
use Rattle.shogi_board.proofs.Tests.{fails}
use Rattle.shogi_board.proofs.Totals.{count-few, own-seven}
use Rattle.shogi_board.proofs.position.Position.walk.Goals as goal
use Rattle.shogi_board.proofs.position.Position.walk.Goals.{in-Black, in-White}

pub put-requires : goal.put-requires
put-requires c = fewer-kings c.self.inside.board c.args.from c.self.invariant.sound.within.squares c.self.invariant.sound.within.kings

pub put-requires-2 : goal.put-requires-2
put-requires-2 c = let totals = rw (← c.self.view_is) at c.requires.totals in rw c.put.ensures totals.kings

pub put-requires-then-king_is_attacked : goal.put-requires-then-king_is_attacked
put-requires-then-king_is_attacked c = λ color.
    let i = c.self.inside in
    let there : get_or (set i.board (place c.args.from) None) (place c.args.to) None ≡ c.cell_at-captured.result = get_or-set_other i.board (place c.args.from) (place c.args.to) None None (λ e. c.requires.apart (sym e)) ∙ sym c.cell_at-captured.ensures in
    rw (c.piece.ensures, c.put-2.ensures, c.put.ensures, put-back (set i.board (place c.args.from) None) (place c.args.to) (piece i.side c.args.kind) c.cell_at-captured.result there)
    (fewer-kings i.board c.args.from c.self.invariant.sound.within.squares c.self.invariant.sound.within.kings color)

pub put-requires-then-king_is_attacked-2 : goal.put-requires-then-king_is_attacked-2
put-requires-then-king_is_attacked-2 c = λ color.
    let i = c.self.inside in
    rw (c.put-then-king_is_attacked.ensures, c.piece-then-king_is_attacked.ensures, c.piece.ensures, c.put-2.ensures, c.put.ensures, walk-back i.board (place c.args.from) (place c.args.to) (piece i.side c.args.kind) c.cell_at-left.result c.cell_at-captured.result c.requires.apart (sym c.cell_at-left.ensures) (sym c.cell_at-captured.ensures))
    (c.self.invariant.sound.within.kings color)

pub invariant_of-self : goal.invariant_of-self
invariant_of-self c =
    let i = c.self.inside in
    let back : c.put-then-king_is_attacked-2.new.self ≡ i.board = rw (c.put-then-king_is_attacked-2.ensures, c.put-then-king_is_attacked.ensures, c.piece-then-king_is_attacked.ensures, c.piece.ensures, c.put-2.ensures, c.put.ensures) (walk-back i.board (place c.args.from) (place c.args.to) _ _ _ c.requires.apart (sym c.cell_at-left.ensures) (sym c.cell_at-captured.ensures)) in
    rw back c.self.invariant

pub returns-then-king_is_attacked-clause-unchanged : goal.returns-then-king_is_attacked-clause-unchanged
returns-then-king_is_attacked-clause-unchanged c = λ _.
    let i = c.self.inside in
    let back : c.put-then-king_is_attacked-2.new.self ≡ i.board = rw (c.put-then-king_is_attacked-2.ensures, c.put-then-king_is_attacked.ensures, c.piece-then-king_is_attacked.ensures, c.piece.ensures, c.put-2.ensures, c.put.ensures) (walk-back i.board (place c.args.from) (place c.args.to) _ _ _ c.requires.apart (sym c.cell_at-left.ensures) (sym c.cell_at-captured.ensures)) in
    rw back c.self.view_is

pub returns-then-king_is_attacked-clause-answer : goal.returns-then-king_is_attacked-clause-answer
returns-then-king_is_attacked-clause-answer c =
    let i = c.self.inside in
    let check : InCheck (set (set i.board (place c.args.from) None) (place c.args.to) (piece i.side c.args.kind)) i.side =
    rw (c.put-2.ensures, c.put.ensures) at (c.king_is_attacked.ensures.0 c.if-king_is_attacked.true) in
    rw (← c.self.view_is) (λ h. cc, λ safe. absurd (safe check))

pub invariant_of-self-2 : goal.invariant_of-self-2
invariant_of-self-2 c =
    let i = c.self.inside in
    let m : Material = record { board = i.board; black = i.black; white = i.white } in
    let w = c.self.invariant.sound.within in
    let board = set (set i.board (place c.args.from) None) (place c.args.to) (piece i.side c.args.kind) in
    let captured = c.cell_at-captured.result in
    let there : get_or i.board (place c.args.to) None ≡ captured = sym c.cell_at-captured.ensures in
    let held : (y : Piece) → captured ≡ Some y → is_hand_kind (unpromoted y.kind) ≡ true = λ y e. c.requires.captured y (rw (← c.self.view_is) (there ∙ e)) in
    let bag = with_captured (bag_of m i.side) captured in
    let totals : IsWithinTotals (record (with_bag m i.side bag) { board = board }) = rw (← c.self.view_is, there) at c.requires.totals in
    let safe : InCheck board i.side → ⊥ = fails c.king_is_attacked.result (rw (c.put-2.ensures, c.put.ensures) at c.king_is_attacked.ensures) c.if-king_is_attacked.false in
    let left : c.cell_key.result ≡ cell_key (place c.args.from) (get_or i.board (place c.args.from) None) = c.cell_key.ensures ∙ rw (c.place-2.ensures.value, c.cell_at-left.ensures) refl in
    let gone : c.cell_key-2.result ≡ cell_key (place c.args.to) captured = c.cell_key-2.ensures ∙ rw c.place-3.ensures.value refl in
    let small : c.cell_key.result < 2 ^ 64 = search rules in
    let few : c.cell_key-2.result < 2 ^ 64 = search rules in
    let key = walked-key m i.side (place c.args.from) (place c.args.to) i.key c.cell_key.result c.cell_key-2.result (piece i.side c.args.kind) captured c.self.invariant.key w.squares (own-seven m i.side w)
    (place-bound c.args.from) (place-bound c.args.to) c.requires.apart there held left gone small few in
    elim c.match-side.branch [
      | in-Black w ↦
          let own : bag_of m i.side ≡ i.black = ap (bag_of m) w.in-Black.is in
          rw (w.self-inside-is, c.not-self-inside.ensures, w.add_captured.ensures, c.put-2.ensures, c.put.ensures, c.piece_key.ensures, c.place.ensures.value, c.captured_key.ensures, c.piece-taken.ensures, ← own) (black-passed m i.side board bag _ w.in-Black.is totals safe key)
      | in-White w ↦
          let own : bag_of m i.side ≡ i.white = ap (bag_of m) w.in-White.is in
          rw (w.self-inside-is, c.not-self-inside.ensures, w.add_captured-in-White.ensures, c.put-2.ensures, c.put.ensures, c.piece_key.ensures, c.place.ensures.value, c.captured_key.ensures, c.piece-taken.ensures, ← own) (white-passed m i.side board bag _ w.in-White.is totals safe key)
    ]

pub returns-clause-answer : goal.returns-clause-answer
returns-clause-answer c =
    let i = c.self.inside in
    let safe : InCheck (set (set i.board (place c.args.from) None) (place c.args.to) (piece i.side c.args.kind)) i.side → ⊥ = fails c.king_is_attacked.result (rw (c.put-2.ensures, c.put.ensures) at c.king_is_attacked.ensures) c.if-king_is_attacked.false in
    rw (← c.self.view_is) (λ _. safe, λ _. refl)

pub add_captured-requires-clause-room : goal.add_captured-requires-clause-room
add_captured-requires-clause-room c = λ x there.
    let i = c.self.inside in
    let m : Material = record { board = i.board; black = i.black; white = i.white } in
    let held = c.requires.captured x (rw (← c.self.view_is) (sym c.cell_at-captured.ensures ∙ (sym c.piece-taken.ensures ∙ there))) in
    count-few m Black (unpromoted x.kind) c.self.invariant.sound.within held

pub add_captured-requires-in-White-clause-room : goal.add_captured-requires-in-White-clause-room
add_captured-requires-in-White-clause-room c = λ x there.
    let i = c.self.inside in
    let m : Material = record { board = i.board; black = i.black; white = i.white } in
    let held = c.requires.captured x (rw (← c.self.view_is) (sym c.cell_at-captured.ensures ∙ (sym c.piece-taken.ensures ∙ there))) in
    count-few m White (unpromoted x.kind) c.self.invariant.sound.within held

pub returns-clause-value : goal.returns-clause-value
returns-clause-value c = λ _.
    elim c.match-side.branch [
      | in-Black w ↦ rw (← c.self.view_is, w.self-inside-is, c.not-self-inside.ensures, w.add_captured.ensures, c.piece-taken.ensures, c.cell_at-captured.ensures, c.put-2.ensures, c.put.ensures, w.in-Black.is) refl
      | in-White w ↦ rw (← c.self.view_is, w.self-inside-is, c.not-self-inside.ensures, w.add_captured-in-White.ensures, c.piece-taken.ensures, c.cell_at-captured.ensures, c.put-2.ensures, c.put.ensures, w.in-White.is) refl
    ]

pub add_captured-requires-clause-kind : goal.add_captured-requires-clause-kind
add_captured-requires-clause-kind c = λ x there. c.requires.captured x (rw (← c.self.view_is) (sym c.cell_at-captured.ensures ∙ (sym c.piece-taken.ensures ∙ there)))

pub add_captured-requires-in-White-clause-kind : goal.add_captured-requires-in-White-clause-kind
add_captured-requires-in-White-clause-kind c = λ x there. c.requires.captured x (rw (← c.self.view_is) (sym c.cell_at-captured.ensures ∙ (sym c.piece-taken.ensures ∙ there)))
