use Rattle.std.proofs.Common.{◌≡◌, take, arith, subst, ◌∙◌, ap}
use Rattle.std.proofs.lemmas.List.{take_all}
use Rattle.std.proofs.lemmas.Int.Digits.{digits_more, digits_value_more}
use Rattle.std.specs.Str.Parse.{AllDigits, digits_value}
use Rattle.csa_text.proofs.Moments.{digit_below}
use Rattle.csa_text.proofs.TimesRead.{so_far}
use Rattle.csa_text.proofs.fields.read_digits.Goals as goal

pub returns-in_err-digit : goal.returns-in_err-digit
returns-in_err-digit c =
    rw c.from_residual.ensures
    (λ value n. absurd (c.in_err-digit.ensures.value (digit_below c.args.bytes.now c.loop-b.b-index n.digits_only c.loop-b-test.true)))

pub returns-in_err-value : goal.returns-in_err-value
returns-in_err-value c =
    rw c.from_residual-in_err-value.ensures
    (λ value n. omega (arith, so_far c.args.bytes.now c.loop-b.b-index c.loop-b-test.true, c.loop-b.invariant.value, c.in_ok-digit.ensures.value.1, c.in_err-value.ensures, n.value_is))

pub loop-b-preserved : goal.loop-b-preserved
loop-b-preserved c =
    let bytes = c.args.bytes.now in
    let i = c.loop-b.b-index in
    let next = c.in_ok-value.ensures in
    record {
      digits = digits_more 10 bytes i c.loop-b-test.true c.loop-b.invariant.digits c.in_ok-digit.ensures.value.0;
      limit = next.1;
      value = omega (arith, digits_value_more 10 bytes i c.loop-b-test.true, c.loop-b.invariant.value, c.in_ok-digit.ensures.value.1, next.0);
    }

pub returns : goal.returns
returns c =
    let whole : take c.loop-b.b-index c.args.bytes.now ≡ c.args.bytes.now = take_all c.loop-b.b-index c.args.bytes.now c.loop-b-test.false in (
      record {
        few = omega arith;
        many = omega arith;
        digits_only = subst (AllDigits 10) whole c.loop-b.invariant.digits;
        value_is = c.loop-b.invariant.value ∙ ap (digits_value 10) whole;
      },
      c.loop-b.invariant.limit,
    )
