use Rattle.std.proofs.Common.{arith}
use Rattle.std.proofs.lemmas.Grind.{common_steps}
use Rattle.csa_record.proofs.Timing.{last_set}
use Rattle.csa_record.proofs.course.set_last.Goals as goal

pub returns-then-count-gt0 : goal.returns-then-count-gt0
returns-then-count-gt0 c =
    last_set c.args.times.now.items c.len-count.result c.args.time (grind (arith, common_steps)) c.if-count-gt0.true
