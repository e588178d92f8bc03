use Rattle.std.proofs.Common.{rules, ◌≡◌, ◌≤◌, ◌<◌, inl, inr, refl, arith, None, sym, ◌∙◌}
use Rattle.shogi_board.specs.Cells.{at}
use Rattle.shogi_board.specs.Material.{bag_of}
use Rattle.shogi_board.specs.Totals.{count_in}
use Rattle.shogi_board.specs.Kinds.{last_rank, rank_for}
use Rattle.shogi_board.proofs.Tests.{fails, nothing}
use Rattle.shogi_board.proofs.board_rules.broken_by_drop.Goals as goal

pub returns-then-not-has_further_move : goal.returns-then-not-has_further_move
returns-then-not-has_further_move c =
    let p = c.args.position.now in
    let some : 0 < c.count.result = grind arith in
    let count : c.count.result ≡ count_in (bag_of p.material p.side) c.args.kind = rw (c.hand.ensures.value, c.side-side.ensures.value) at c.count.ensures.value in
    let held : 0 < count_in (bag_of p.material p.side) c.args.kind = rw count at some in
    let free : at p.material.board c.args.to ≡ None = sym c.piece_at.ensures.value ∙ nothing c.piece_at.result c.is_some.result c.is_some.ensures c.if-is_some.false in
    let none : (last_rank c.args.kind ≤ rank_for p.side c.args.to) → ⊥ = rw c.side-side.ensures.value at (fails c.has_further_move.result c.has_further_move.ensures c.if-not-has_further_move.true) in
    inr (held, inr (tt, inr (free, inr (tt, inr (tt, inl (none, refl))))))

pub returns-then-doubles_pawn : goal.returns-then-doubles_pawn
returns-then-doubles_pawn c = search rules
