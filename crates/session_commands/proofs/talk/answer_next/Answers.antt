use Rattle.std.proofs.Common.{ap, Err, subst}
use Rattle.std.proofs.lemmas.Result.{err_from_is_err_and}
use Rattle.csa_cutting.specs.LineCutting.{LinesAfter}
use Rattle.session_commands.proofs.Talks.{next_none, next_answered, next_finishes, next_unanswered, next_uncut}
use Rattle.session_commands.proofs.talk.answer_next.Goals as goal

pub returns-in-Err-clause-next : goal.returns-in-Err-clause-next
returns-in-Err-clause-next g c =
    next_uncut g.X.Wire.came g.X.Wire.ends g.X.Wire.went g.X.Wire.silent g.X.Wire.blocked g.M.Machine.answers c.args.cutter.now c.args.piece.now c.args.wire.now c.args.machine.now c.in-Err.fault c.from.result c.from.ensures (λ h. c.in-Err.ensures.long.0 (ap Err h))

pub returns-in_default-clause-next : goal.returns-in_default-clause-next
returns-in_default-clause-next g c =
    next_none g.X.Wire.came g.X.Wire.ends g.X.Wire.went g.M.Machine.answers c.args.cutter.now c.step.follows.lender-at-none c.args.piece.now c.in-Ok.step c.args.wire.now c.args.machine.now c.in_default.is (λ h. let long = c.in-Ok.ensures.long.1 h in cc) c.in-Ok.ensures.lines
    (subst (λ r. LinesAfter c.args.cutter.now c.args.piece.now r c.step.follows.lender-at-none) c.in-Ok.is c.step.follows.holds-at-none)

pub returns-in-Ended-clause-next : goal.returns-in-Ended-clause-next
returns-in-Ended-clause-next g c =
    next_finishes g.X.Wire.came g.X.Wire.ends g.X.Wire.went g.M.Machine.answers c.args.cutter.now c.args.piece.now c.in-Ok.step c.in-Some.line c.args.wire.now c.answer.new.wire c.args.machine.now c.answer.new.machine c.in_ok-answer.field-0 c.in-Ended.is c.in-Some.is (λ h. let long = c.in-Ok.ensures.long.1 h in cc) c.in-Ok.ensures.lines
    c.in_ok-answer.ensures.replied

pub returns-in-Running-clause-next : goal.returns-in-Running-clause-next
returns-in-Running-clause-next g c =
    next_answered g.X.Wire.came g.X.Wire.ends g.X.Wire.went g.M.Machine.answers c.args.cutter.now c.step.follows.lender-at-none c.args.piece.now c.in-Ok.step c.in-Some.line c.args.wire.now c.answer.new.wire c.args.machine.now c.answer.new.machine c.in_ok-answer.field-0 c.in-Running.is c.in-Some.is (λ h. let long = c.in-Ok.ensures.long.1 h in cc) c.in-Ok.ensures.lines
    (subst (λ r. LinesAfter c.args.cutter.now c.args.piece.now r c.step.follows.lender-at-none) c.in-Ok.is c.step.follows.holds-at-none) c.in_ok-answer.ensures.replied

pub returns-in_err-answer-clause-next : goal.returns-in_err-answer-clause-next
returns-in_err-answer-clause-next g c =
    let p = err_from_is_err_and c.from_residual.result c.from_residual.ensures.1 in
    rw (p.1, p.2)
    (next_unanswered g.X.Wire.came g.X.Wire.ends g.X.Wire.went g.X.Wire.silent g.X.Wire.blocked g.M.Machine.answers c.args.cutter.now c.args.piece.now c.in-Ok.step c.in-Some.line c.args.wire.now c.answer.new.wire c.args.machine.now c.in_err-answer.field-0.0 c.in-Some.is c.in-Ok.ensures.lines c.in_err-answer.ensures.unsent)
