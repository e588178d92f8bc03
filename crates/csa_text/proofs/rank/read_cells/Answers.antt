use Rattle.std.proofs.Common.{arith, ◌∙◌}
use Rattle.std.proofs.lemmas.List.{take_more_set, length-set}
use Rattle.csa_text.proofs.Texts.{cut_out}
use Rattle.csa_text.proofs.CellTexts.{no_nine, no_cells, cells_next}
use Rattle.csa_text.proofs.rank.read_cells.Goals as goal

pub returns-then-bytes-ne-RANK : goal.returns-then-bytes-ne-RANK
returns-then-bytes-ne-RANK c = no_nine c.args.bytes.now c.if-bytes-ne-RANK.true

pub returns-in_err-cells : goal.returns-in_err-cells
returns-in_err-cells c =
    rw c.from_residual.ensures
    (no_cells c.args.bytes.now _ c.loop-i.i (omega (arith, c.loop-i-test.true)) (cut_out c.args.bytes.now 3 c.loop-i.i) c.in_err-cells.ensures)

pub loop-i-preserved : goal.loop-i-preserved
loop-i-preserved c = record {
  nine = length-set c.loop-i.cells _ c.in_ok-cells.field-0 ∙ c.loop-i.invariant.nine;
  front = cells_next c.args.bytes.now _ c.loop-i.i _ _ c.in_ok-cells.field-0 c.loop-i.invariant.front (cut_out c.args.bytes.now 3 c.loop-i.i) c.in_ok-cells.ensures
      (take_more_set c.loop-i.cells c.loop-i.i c.in_ok-cells.field-0 (omega (arith, c.loop-i.invariant.nine, c.loop-i-test.true)));
}
