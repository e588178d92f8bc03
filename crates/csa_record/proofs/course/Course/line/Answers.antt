use Rattle.csa_record.proofs.Courses.{line_seen}
use Rattle.csa_record.proofs.course.Course.line.Goals as goal

pub returns : goal.returns
returns c = line_seen c.self.inside.line c.self.inside.times.items c.self.inside.ending c.args.self.now c.self.invariant.long c.self.view_is
