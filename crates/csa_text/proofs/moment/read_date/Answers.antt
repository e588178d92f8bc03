use Rattle.csa_text.proofs.Moments.{day_found}
use Rattle.csa_text.proofs.moment.read_date.Goals as goal

pub returns-in_err-year-clause-value : goal.returns-in_err-year-clause-value
returns-in_err-year-clause-value c =
    rw c.from_residual.ensures (λ y m d s. c.in_err-year.ensures.value y m d s.0)

pub returns-clause-value : goal.returns-clause-value
returns-clause-value c =
    day_found c.args.bytes.now c.in_ok-year.year c.in_ok-year.month c.in_ok-year.day c.date_of.result c.in_ok-year.ensures.value c.date_of.ensures.exists c.date_of.ensures.value
