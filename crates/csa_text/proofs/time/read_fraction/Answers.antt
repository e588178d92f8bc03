use Rattle.std.proofs.Common.{◌<◌, ◌^◌, arith}
use Rattle.csa_text.proofs.Moments.{below_power}
use Rattle.csa_text.proofs.time.read_fraction.Goals as goal

pub overflow_mul-result : goal.overflow_mul-result
overflow_mul-result c =
    let n = c.in_ok-value.ensures.value in
    let small : c.in_ok-value.value < 10 ^ 1 = rw n.value_is (below_power c.args.digits.now 1 n.digits_only (omega (arith, c.in-1.is))) in
    omega (arith, small)

pub returns-in-1-clause-bound : goal.returns-in-1-clause-bound
returns-in-1-clause-bound c =
    let n = c.in_ok-value.ensures.value in
    let small : c.in_ok-value.value < 10 ^ 1 = rw n.value_is (below_power c.args.digits.now 1 n.digits_only (omega (arith, c.in-1.is))) in
    omega (arith, small)

pub returns-in-2-clause-bound : goal.returns-in-2-clause-bound
returns-in-2-clause-bound c =
    let n = c.in_ok-value.ensures.value in
    let small : c.in_ok-value.value < 10 ^ 2 = rw n.value_is (below_power c.args.digits.now 2 n.digits_only (omega (arith, c.in-2.is))) in
    omega (arith, small)
