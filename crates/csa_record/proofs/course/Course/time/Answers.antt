use Rattle.std.proofs.Common.{◌≡◌, ◌∙◌, None, get_or, arith}
use Rattle.std.proofs.lemmas.Grind.{common_steps}
use Rattle.csa_record.proofs.Courses.{time_seen}
use Rattle.csa_record.proofs.course.Course.time.Goals as goal

pub returns-then-i-len : goal.returns-then-i-len
returns-then-i-len c =
    let here : c.index.result.now ≡ get_or c.self.inside.times.items c.args.i None = grind (arith, common_steps) in
    here ∙ time_seen c.self.inside.line c.self.inside.times.items c.self.inside.ending c.args.self.now c.args.i c.self.invariant.long c.self.view_is

pub returns-else-i-len : goal.returns-else-i-len
returns-else-i-len c =
    let here : None ≡ get_or c.self.inside.times.items c.args.i None = grind (arith, common_steps) in
    here ∙ time_seen c.self.inside.line c.self.inside.times.items c.self.inside.ending c.args.self.now c.args.i c.self.invariant.long c.self.view_is
