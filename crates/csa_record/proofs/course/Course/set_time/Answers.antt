use Rattle.std.proofs.Common.{◌∙◌, ap}
use Rattle.csa_record.specs.Coursing.{course_of}
use Rattle.csa_record.proofs.Courses.{kept_last, course_last}
use Rattle.csa_record.proofs.course.Course.set_time.Goals as goal

pub invariant_of-self-in-None : goal.invariant_of-self-in-None
invariant_of-self-in-None c =
    kept_last c.self.inside.line c.self.inside.times.items c.set_last.new.times.items c.self.inside.ending c.args.thousandths
    c.self.invariant c.set_last.ensures c.requires

pub returns-in-None-clause-changed : goal.returns-in-None-clause-changed
returns-in-None-clause-changed c =
    let seen = rw c.in-None.is at c.self.view_is in
    ap (course_of c.self.inside.line c.set_last.new.times.items) c.in-None.is
    ∙ course_last c.self.inside.line c.self.inside.times.items c.set_last.new.times.items c.args.thousandths c.args.self.now
    c.self.invariant.long seen c.set_last.ensures

pub returns-in-None-clause-course : goal.returns-in-None-clause-course
returns-in-None-clause-course c =
    let kept = kept_last c.self.inside.line c.self.inside.times.items c.set_last.new.times.items c.self.inside.ending c.args.thousandths
    c.self.invariant c.set_last.ensures c.requires in
    kept.course
