use Rattle.std.proofs.Common.{rules, inr, subst}
use Rattle.csa_cutting.specs.LineCutting.{LinesAfter}
use Rattle.record_commands.proofs.Cutting.{goes_on, ended_short}
use Rattle.record_commands.proofs.incoming.cut.Goals as goal

pub returns-in_default-clause-keeps : goal.returns-in_default-clause-keeps
returns-in_default-clause-keeps c = λ reading.
    goes_on c.args.cutter.now c.step.follows.lender-at-none c.args.piece.now (c.in_ok-used.used, c.in_ok-used.line) c.in_default.is reading
    (λ x. let long = c.in_ok-used.ensures.long.1 (inr x) in cc)
    (subst (λ r. LinesAfter c.args.cutter.now c.args.piece.now r c.step.follows.lender-at-none) c.in_ok-used.was c.step.follows.holds-at-none)

pub returns-clause-short : goal.returns-clause-short
returns-clause-short c = λ reading.
    rw c.in_ok-kept.ensures.items
    (ended_short c.args.cutter.now c.args.piece.now (c.in_ok-used.used, c.in_ok-used.line) c.in-Some.line c.in-Some.is reading
    (λ x. let long = c.in_ok-used.ensures.long.1 (inr x) in cc)
    c.in_ok-used.ensures.lines)

pub returns-clause-line : goal.returns-clause-line
returns-clause-line c = search rules
