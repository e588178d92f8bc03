use Rattle.std.proofs.Common.{◌≡◌, sym, false, arith}
use Rattle.std.specs.Prelude.{is_some}
use Rattle.std.proofs.lemmas.Grind.{common_steps}
use Rattle.csa_record.proofs.Courses.{full_seen, free_seen}
use Rattle.csa_record.proofs.course.Course.play_fault.Goals as goal

pub returns-then-len-ge-MAX_MOVES : goal.returns-then-len-ge-MAX_MOVES
returns-then-len-ge-MAX_MOVES c =
    let unended : is_some c.self.inside.ending ≡ false = grind (arith, common_steps) in
    sym (full_seen c.self.inside.line c.self.inside.times.items c.self.inside.ending c.args.self.now c.self.invariant.long c.self.view_is unended (grind (arith, common_steps)))

pub returns : goal.returns
returns c =
    let unended : is_some c.self.inside.ending ≡ false = grind (arith, common_steps) in
    sym (free_seen c.self.inside.line c.self.inside.times.items c.self.inside.ending c.args.self.now c.self.invariant.long c.self.view_is unended (grind (arith, common_steps)))
