use Rattle.std.proofs.Common.{arith}
use Rattle.csa_cutting.proofs.Unspoken.{comment_goes_on, comment_ends}
use Rattle.csa_cutting.proofs.units.comment_end.Goals as goal

pub returns-then-length-text-clause-goes_on : goal.returns-then-length-text-clause-goes_on
returns-then-length-text-clause-goes_on c =
    let n = c.unit_length-length in
    comment_goes_on c.args.text.now n.result n.ensures.value (omega (arith, c.if-length-text.true))

pub returns-clause-ends : goal.returns-clause-ends
returns-clause-ends c =
    let n = c.unit_length-length in
    comment_ends c.args.text.now n.result n.ensures.value (omega (arith, c.if-length-text.false, n.ensures.within))
