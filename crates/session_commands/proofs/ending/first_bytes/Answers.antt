use Rattle.std.proofs.Common.{arith, sym}
use Rattle.std.proofs.lemmas.List.{length-take, take_all}
use Rattle.session_commands.proofs.ending.first_bytes.Goals as goal

pub slice_bounds-result-end : goal.slice_bounds-result-end
slice_bounds-result-end c = omega (arith, length-take 256 c.args.line.now, c.if-line-le-LONGEST.false)

pub returns-then-line-le-LONGEST-clause-value : goal.returns-then-line-le-LONGEST-clause-value
returns-then-line-le-LONGEST-clause-value c = sym (take_all 256 c.args.line.now (omega (arith, c.if-line-le-LONGEST.true)))

pub returns-else-line-le-LONGEST-clause-bound : goal.returns-else-line-le-LONGEST-clause-bound
returns-else-line-le-LONGEST-clause-bound c = omega (arith, length-take 256 c.args.line.now, c.if-line-le-LONGEST.false)
