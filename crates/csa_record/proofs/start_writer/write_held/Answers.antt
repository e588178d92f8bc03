use Rattle.std.proofs.Common.{◌∙◌, ap, ◌++◌}
use Rattle.csa_record.proofs.StartText.{held_more}
use Rattle.csa_record.proofs.start_writer.write_held.Goals as goal

pub loop-preserved : goal.loop-preserved
loop-preserved c =
    held_more _ c.loop.out.items c.extend_from_slice.new.self.items c.args.kind c.args.count c.loop.counter c.loop-test.true c.loop.invariant
    (c.in_ok-extend_from_slice.ensures.items ∙ ap (λ b. c.loop.out.items ++ b) c.pair_bytes.ensures.bytes)
