use Rattle.csa_record.proofs.Timing.{last_lacks}
use Rattle.csa_record.proofs.course.last_missing.Goals as goal

pub returns-in-Some : goal.returns-in-Some
returns-in-Some c = last_lacks c.args.times.now c.in-Some.time.now c.is_none.result c.in-Some.ensures.value c.is_none.ensures
