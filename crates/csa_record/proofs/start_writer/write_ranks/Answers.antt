use Rattle.csa_record.proofs.StartText.{rows_written}
use Rattle.csa_record.proofs.start_writer.write_ranks.Goals as goal

pub loop-number-preserved : goal.loop-number-preserved
loop-number-preserved c =
    rows_written c.args.out.now.items c.loop-number.out.items c.write_rank.new.out.items c.args.start.now.material.board c.loop-number.number c.loop-number-test.true c.loop-number.invariant c.in_ok-write_rank.ensures
