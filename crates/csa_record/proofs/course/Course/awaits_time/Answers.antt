use Rattle.std.proofs.Common.{◌∙◌, ap}
use Rattle.csa_record.specs.Coursing.{lacks_last}
use Rattle.csa_record.proofs.Courses.{awaits_seen}
use Rattle.csa_record.proofs.course.Course.awaits_time.Goals as goal

pub returns-in-None : goal.returns-in-None
returns-in-None c =
    let seen = rw c.in-None.is at c.self.view_is in
    c.last_missing.ensures ∙ (ap lacks_last c.as_slice.ensures.value
    ∙ awaits_seen c.self.inside.line c.self.inside.times.items c.args.self.now c.self.invariant.long seen)
