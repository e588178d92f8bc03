use Rattle.csa_record.proofs.StartText.{CellsToWrite}
use Rattle.csa_record.proofs.start_writer.write_cells.Given as goal

abbrev pub invariant-loop-i : goal.invariant-loop-i
invariant-loop-i l = CellsToWrite l.fn.out.items l.out.items l.start.material.board l.number l.i
