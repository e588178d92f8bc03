use Rattle.std.proofs.Common.{arith, take, length, ◌≤◌}
use Rattle.std.proofs.lemmas.Int.Digits.{digits_more, digits_value_more}
use Rattle.std.proofs.lemmas.List.{length-take-le}
use Rattle.csa_text.proofs.Moments.{below_power}
use Rattle.csa_text.proofs.front.front_digits.Goals as goal

pub overflow_mul-value : goal.overflow_mul-value
overflow_mul-value c =
    let text = c.args.text.now in
    let count = c.loop-count.count in
    let few : length (take count text) ≤ 8 = omega (arith, length-take-le count text c.loop-count.invariant.within, c.loop-count-test.true) in
    omega (arith, c.loop-count.invariant.value, below_power (take count text) 8 c.loop-count.invariant.digits few)

pub overflow_add-value : goal.overflow_add-value
overflow_add-value c =
    let text = c.args.text.now in
    let count = c.loop-count.count in
    let few : length (take count text) ≤ 8 = omega (arith, length-take-le count text c.loop-count.invariant.within, c.loop-count-test.true) in
    let digit = c.in-Some.ensures.value in
    omega (arith, c.loop-count.invariant.value, below_power (take count text) 8 c.loop-count.invariant.digits few, digit.0, digit.1)

pub loop-count-preserved : goal.loop-count-preserved
loop-count-preserved c =
    let text = c.args.text.now in
    let count = c.loop-count.count in
    let i = c.loop-count.invariant in
    let digit = c.in-Some.ensures.value in
    record {
      few = omega (arith, c.loop-count-test.true);
      within = omega (arith, c.if-count-text.true);
      digits = digits_more 10 text count c.if-count-text.true i.digits digit.0;
      value = omega (arith, digits_value_more 10 text count c.if-count-text.true, i.value, digit.1);
    }
