use Rattle.std.proofs.Common.{◌≡◌, sym, ◌++◌, ◌∷◌, [], None, arith}
use Rattle.std.proofs.lemmas.Grind.{common_steps}
use Rattle.std.proofs.lemmas.Result.{err_from_is_err_and}
use Rattle.record_game.specs.Course.{play_fault}
use Rattle.record_game.proofs.PlayAnswered.{answer_fault}
use Rattle.csa_record.proofs.Courses.{answer_played, answer_refused, kept_more, course_more}
use Rattle.csa_record.proofs.course.Course.play.Goals as goal

pub returns-in-Some-clause-answer : goal.returns-in-Some-clause-answer
returns-in-Some-clause-answer c = answer_fault c.args.self.now c.args.color c.args.mv c.in-Some.fault (sym c.in-Some.ensures)

pub returns-then-is_err-clause-answer : goal.returns-then-is_err-clause-answer
returns-then-is_err-clause-answer c =
    let free : play_fault c.args.self.now ≡ None = grind (arith, common_steps) in
    answer_refused c.self.inside.line c.self.inside.times.items c.self.inside.ending c.args.self.now c.args.color c.args.mv c.why_without_room.result
    c.self.invariant.long c.self.view_is free c.why_without_room.ensures

pub invariant_of-self-2 : goal.invariant_of-self-2
invariant_of-self-2 c =
    let pushed : c.push_reserved.new.self.items ≡ c.self.inside.times.items ++ None ∷ [] = grind (arith, common_steps) in
    kept_more c.self.inside.line c.play_on.new.line c.self.inside.times.items c.push_reserved.new.self.items c.self.inside.ending c.args.color c.args.mv
    c.self.invariant c.in_ok-play_on.ensures.ok.1 pushed c.in_ok-play_on.ensures.ok.0

pub returns-clause-answer : goal.returns-clause-answer
returns-clause-answer c =
    let free : play_fault c.args.self.now ≡ None = grind (arith, common_steps) in
    answer_played c.self.inside.line c.self.inside.times.items c.self.inside.ending c.args.self.now c.args.color c.args.mv c.self.invariant.long c.self.view_is free c.in_ok-play_on.ensures.ok.0

pub returns-clause-changed : goal.returns-clause-changed
returns-clause-changed c =
    let pushed : c.push_reserved.new.self.items ≡ c.self.inside.times.items ++ None ∷ [] = grind (arith, common_steps) in
    course_more c.self.inside.line c.play_on.new.line c.self.inside.times.items c.push_reserved.new.self.items c.self.inside.ending c.args.mv c.args.self.now
    c.self.invariant.long c.self.view_is c.in_ok-play_on.ensures.ok.1 pushed

pub returns-in_err-play_on-clause-answer : goal.returns-in_err-play_on-clause-answer
returns-in_err-play_on-clause-answer c =
    let free : play_fault c.args.self.now ≡ None = grind (arith, common_steps) in
    let p = err_from_is_err_and c.from_residual.result c.from_residual.ensures.1 in
    rw (p.1, p.2)
    (answer_refused c.self.inside.line c.self.inside.times.items c.self.inside.ending c.args.self.now c.args.color c.args.mv c.in_err-play_on.field-0.0
    c.self.invariant.long c.self.view_is free c.in_err-play_on.ensures.err)

pub returns-clause-course : goal.returns-clause-course
returns-clause-course c =
    let pushed : c.push_reserved.new.self.items ≡ c.self.inside.times.items ++ None ∷ [] = grind (arith, common_steps) in
    let kept = kept_more c.self.inside.line c.play_on.new.line c.self.inside.times.items c.push_reserved.new.self.items c.self.inside.ending c.args.color c.args.mv
    c.self.invariant c.in_ok-play_on.ensures.ok.1 pushed c.in_ok-play_on.ensures.ok.0 in
    kept.course
