use Rattle.csa_record.proofs.StartText.{RowsLeft}
use Rattle.csa_record.proofs.start_writer.write_ranks.Given as goal

abbrev pub invariant-loop-number : goal.invariant-loop-number
invariant-loop-number l = RowsLeft l.fn.out.items l.out.items l.start.material.board l.number
