use Rattle.std.proofs.Common.{rules, ◌≡◌, ◌∙◌, ◌<◌, ◌^◌, None, set, get_or, ap, refl}
use Rattle.shogi_board.specs.Cells.{Cells, at, piece}
use Rattle.shogi_board.specs.Keys.{held_key}
use Rattle.shogi_board.specs.Material.{Material, bag_of, with_bag}
use Rattle.shogi_board.specs.Pieces.{place_of}
use Rattle.shogi_board.specs.Reach.{InCheck}
use Rattle.shogi_board.specs.Setup.{one_less}
use Rattle.shogi_board.specs.Squares.{place}
use Rattle.shogi_board.specs.Totals.{IsWithinTotals}
use Rattle.shogi_board.proofs.Drops.{held-of}
use Rattle.shogi_board.proofs.Keyed.{dropped-key}
use Rattle.shogi_board.proofs.Moved.{put-back, black-passed, white-passed}
use Rattle.shogi_board.proofs.Squares.{place-bound}
use Rattle.shogi_board.proofs.Tests.{fails}
use Rattle.shogi_board.proofs.Totals.{own-seven}
use Rattle.shogi_board.proofs.position.Position.drop_piece.Goals as goal
use Rattle.shogi_board.proofs.position.Position.drop_piece.Goals.{in-Black, in-White}

pub put-requires : goal.put-requires
put-requires c = let totals = rw (← c.self.view_is) at c.requires.totals in totals.kings

pub put-requires-then-king_is_attacked : goal.put-requires-then-king_is_attacked
put-requires-then-king_is_attacked c = λ color.
    let i = c.self.inside in
    let empty : at i.board c.args.to ≡ None = rw (← c.self.view_is) at c.requires.empty in
    rw (c.put.ensures, put-back i.board (place c.args.to) (piece i.side c.args.kind) None empty) (c.self.invariant.sound.within.kings color)

pub invariant_of-self : goal.invariant_of-self
invariant_of-self c =
    let i = c.self.inside in
    let empty : at i.board c.args.to ≡ None = rw (← c.self.view_is) at c.requires.empty in
    let back : c.put-then-king_is_attacked.new.self ≡ i.board =
    c.put-then-king_is_attacked.ensures ∙ (ap (λ (b : Cells). set b (place c.args.to) None) c.put.ensures ∙ put-back i.board (place c.args.to) _ None empty) in
    rw back c.self.invariant

pub returns-then-king_is_attacked-clause-unchanged : goal.returns-then-king_is_attacked-clause-unchanged
returns-then-king_is_attacked-clause-unchanged c = λ _.
    let i = c.self.inside in
    let empty : at i.board c.args.to ≡ None = rw (← c.self.view_is) at c.requires.empty in
    let back : c.put-then-king_is_attacked.new.self ≡ i.board =
    c.put-then-king_is_attacked.ensures ∙ (ap (λ (b : Cells). set b (place c.args.to) None) c.put.ensures ∙ put-back i.board (place c.args.to) _ None empty) in
    rw back c.self.view_is

pub returns-then-king_is_attacked-clause-answer : goal.returns-then-king_is_attacked-clause-answer
returns-then-king_is_attacked-clause-answer c =
    let i = c.self.inside in
    let check : InCheck (set i.board (place c.args.to) (piece i.side c.args.kind)) i.side = rw c.put.ensures at (c.king_is_attacked.ensures.0 c.if-king_is_attacked.true) in
    rw (← c.self.view_is) (λ h. cc, λ safe. absurd (safe check))

pub invariant_of-self-2 : goal.invariant_of-self-2
invariant_of-self-2 c =
    let i = c.self.inside in
    let m : Material = record { board = i.board; black = i.black; white = i.white } in
    let w = c.self.invariant.sound.within in
    let board = set i.board (place c.args.to) (piece i.side c.args.kind) in
    let bag = one_less (bag_of m i.side) c.args.kind in
    let totals : IsWithinTotals (record (with_bag m i.side bag) { board = board }) = rw (← c.self.view_is) at c.requires.totals in
    let safe : InCheck board i.side → ⊥ = fails c.king_is_attacked.result (rw c.put.ensures at c.king_is_attacked.ensures) c.if-king_is_attacked.false in
    let empty : get_or i.board (place c.args.to) None ≡ None = rw (← c.self.view_is) at c.requires.empty in
    let some = rw (← c.self.view_is) at c.requires.held in
    let left : c.held_key.result ≡ held_key i.side (place_of c.args.kind) = c.held_key.ensures ∙ rw c.place-2.ensures.value refl in
    let small : c.held_key.result < 2 ^ 64 = search rules in
    let key = dropped-key m i.side (place c.args.to) i.key c.held_key.result (piece i.side c.args.kind) c.args.kind c.self.invariant.key w.squares (own-seven m i.side w)
    (place-bound c.args.to) empty (held-of (bag_of m i.side) c.args.kind some).0 some left small in
    elim c.match-side.branch [
      | in-Black w ↦
          let own : bag_of m i.side ≡ i.black = ap (bag_of m) w.in-Black.is in
          rw (w.self-inside-is, c.not-self-inside.ensures, w.take_one.ensures, c.put.ensures, c.piece_key.ensures, c.place.ensures.value, ← own) (black-passed m i.side board bag _ w.in-Black.is totals safe key)
      | in-White w ↦
          let own : bag_of m i.side ≡ i.white = ap (bag_of m) w.in-White.is in
          rw (w.self-inside-is, c.not-self-inside.ensures, w.take_one-in-White.ensures, c.put.ensures, c.piece_key.ensures, c.place.ensures.value, ← own) (white-passed m i.side board bag _ w.in-White.is totals safe key)
    ]

pub returns-clause-answer : goal.returns-clause-answer
returns-clause-answer c =
    let i = c.self.inside in
    let safe : InCheck (set i.board (place c.args.to) (piece i.side c.args.kind)) i.side → ⊥ = fails c.king_is_attacked.result (rw c.put.ensures at c.king_is_attacked.ensures) c.if-king_is_attacked.false in
    rw (← c.self.view_is) (λ _. safe, λ _. refl)

pub returns-clause-value : goal.returns-clause-value
returns-clause-value c = λ _.
    elim c.match-side.branch [
      | in-Black w ↦ rw (← c.self.view_is, w.self-inside-is, c.not-self-inside.ensures, w.take_one.ensures, c.put.ensures, w.in-Black.is) refl
      | in-White w ↦ rw (← c.self.view_is, w.self-inside-is, c.not-self-inside.ensures, w.take_one-in-White.ensures, c.put.ensures, w.in-White.is) refl
    ]

pub take_one-requires-clause-kind : goal.take_one-requires-clause-kind
take_one-requires-clause-kind c = (held-of _ c.args.kind c.requires.held).0

pub take_one-requires-in-White-clause-kind : goal.take_one-requires-in-White-clause-kind
take_one-requires-in-White-clause-kind c = (held-of _ c.args.kind c.requires.held).0
