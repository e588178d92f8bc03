use Rattle.std.proofs.Common.{arith}
use Rattle.csa_text.proofs.Moments.{below_power}
use Rattle.csa_text.proofs.fields.read_number.Goals as goal

pub returns-in_err-read_digits-clause-value : goal.returns-in_err-read_digits-clause-value
returns-in_err-read_digits-clause-value c =
    rw c.from_residual.ensures
    (λ value n. absurd (omega (arith, n.value_is, below_power c.args.bytes.now 4 n.digits_only (omega arith), c.in_err-read_digits.ensures value (record { few = omega arith; many = omega arith; digits_only = n.digits_only; value_is = n.value_is }))))

pub overflow_cast-result : goal.overflow_cast-result
overflow_cast-result c =
    let n = c.in_ok-read_digits.ensures.0 in
    omega (arith, n.value_is, below_power c.args.bytes.now 4 n.digits_only (omega arith))

pub returns-clause-value : goal.returns-clause-value
returns-clause-value c =
    let n = c.in_ok-read_digits.ensures.0 in
    record { few = omega arith; many = omega arith; digits_only = n.digits_only; value_is = n.value_is }

pub returns-clause-bound : goal.returns-clause-bound
returns-clause-bound c =
    let n = c.in_ok-read_digits.ensures.0 in
    rw n.value_is (below_power c.args.bytes.now c.args.most n.digits_only (omega arith))
