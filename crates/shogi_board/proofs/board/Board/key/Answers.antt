use Rattle.std.proofs.Common.{◌<◌, ◌%◌, ◌^◌, None, arith, ap, length, sym, ◌∙◌}
use Rattle.std.proofs.lemmas.List.{take_all}
use Rattle.shogi_board.specs.Cells.{Cells}
use Rattle.shogi_board.specs.Keys.{cell_key, cells_key}
use Rattle.shogi_board.proofs.Sums.{grown, sum_from-step}
use Rattle.shogi_board.proofs.board.Board.key.Goals as goal

pub loop-n-preserved : goal.loop-n-preserved
loop-n-preserved c =
    let low : c.loop-n.n < length c.args.self.now = rw c.cell.ensures.whole c.loop-n-test.true in
    record {
      sum = rw (c.cell_key-key.ensures, c.cell.ensures.value) (grown _ _ _ _ c.loop-n.invariant.sum (sum_from-step cell_key c.args.self.now c.loop-n.n None low));
      whole = λ _. c.cell.ensures.whole;
    }

pub returns : goal.returns
returns c =
    let whole = c.loop-n.invariant.whole (omega (arith, c.loop-n-test.false)) in
    sym c.loop-n.invariant.sum ∙ ap (λ (ps : Cells). cells_key ps % 2 ^ 64) (take_all c.loop-n.n c.args.self.now (omega (arith, whole, c.loop-n-test.false)))
