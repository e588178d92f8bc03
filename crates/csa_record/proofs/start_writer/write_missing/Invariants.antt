use Rattle.csa_record.proofs.StartText.{MissingLeft}
use Rattle.csa_record.proofs.start_writer.write_missing.Given as goal

abbrev pub invariant-loop-n : goal.invariant-loop-n
invariant-loop-n l = MissingLeft l.fn.out.items l.out.items l.start.material.board l.n
