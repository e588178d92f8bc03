use Rattle.std.proofs.Common.{◌≡◌, [], rules, arith}
use Rattle.csa_cutting.specs.declared.units.Place.TheVariants.{Gap, Comment}
use Rattle.csa_cutting.proofs.Fronts.{rest_of}
use Rattle.csa_cutting.proofs.Unspoken.{unspoken_on}
use Rattle.csa_cutting.proofs.units.comments_rest.Goals as goal

pub loop-next-preserved : goal.loop-next-preserved
loop-next-preserved c =
    let text = c.args.text.now in
    let passed = c.loop-next.passed in
    let i = c.loop-next.invariant in
    let gap : passed.place ≡ Gap = search (rules, c.loop-next-test.ensures) in
    let next = rw (rest_of text passed.used) at c.in-Some-front_unspoken.ensures.unspoken in
    record {
      some = omega (arith, i.some);
      unspoken = unspoken_on Comment [] text passed c.in-Some-front_unspoken.next i.some i.unspoken (rw gap (next []));
    }
