use Rattle.csa_text.proofs.Moments.{no_split, first_number, three_parts}
use Rattle.csa_text.proofs.moment.three_numbers.Goals as goal

pub returns-in_err-front-clause-value : goal.returns-in_err-front-clause-value
returns-in_err-front-clause-value c =
    rw c.from_residual.ensures (λ y m d n. no_split c.args.mark c.args.bytes.now n.front _ c.in_err-front.ensures n.whole)

pub returns-in_err-middle-clause-value : goal.returns-in_err-middle-clause-value
returns-in_err-middle-clause-value c =
    rw c.from_residual-in_err-middle.ensures
    (λ y m d n. let rest = (first_number _ _ _ _ _ _ _ y m d c.requires.mark c.in_ok-front.ensures n).1 in no_split c.args.mark c.in_ok-front.rest.now rest.0 rest.1 c.in_err-middle.ensures rest.2)

pub returns-in_err-read_number-clause-value : goal.returns-in_err-read_number-clause-value
returns-in_err-read_number-clause-value c =
    rw c.from_residual-in_err-read_number.ensures
    (λ y m d n. c.in_err-read_number.ensures.value y (three_parts _ _ _ _ _ _ _ _ _ y m d c.requires.mark c.in_ok-front.ensures c.in_ok-middle.ensures n).0)

pub returns-in_err-read_number-2-clause-value : goal.returns-in_err-read_number-2-clause-value
returns-in_err-read_number-2-clause-value c =
    rw c.from_residual-in_err-read_number-2.ensures
    (λ y m d n. c.in_err-read_number-2.ensures.value m (three_parts _ _ _ _ _ _ _ _ _ y m d c.requires.mark c.in_ok-front.ensures c.in_ok-middle.ensures n).1)

pub returns-in_err-read_number-3-clause-value : goal.returns-in_err-read_number-3-clause-value
returns-in_err-read_number-3-clause-value c =
    rw c.from_residual-in_err-read_number-3.ensures
    (λ y m d n. c.in_err-read_number-3.ensures.value d (three_parts _ _ _ _ _ _ _ _ _ y m d c.requires.mark c.in_ok-front.ensures c.in_ok-middle.ensures n).2)
