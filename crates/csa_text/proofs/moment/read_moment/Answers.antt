use Rattle.csa_text.specs.Fields.{HasNone}
use Rattle.csa_text.proofs.Moments.{no_date_alone, no_date_before, no_time_after}
use Rattle.csa_text.proofs.moment.read_moment.Goals as goal

pub returns-in_err-read_date-clause-none : goal.returns-in_err-read_date-clause-none
returns-in_err-read_date-clause-none c =
    let none : HasNone 32 c.args.bytes.now = rw c.in_default.is at c.split_at_byte.ensures in
    rw c.from_residual.ensures
    (λ m s. no_date_alone c.args.bytes.now m.time m.year m.month m.day none c.in_err-read_date.ensures.value s)

pub returns-in_err-read_date-2-clause-none : goal.returns-in_err-read_date-2-clause-none
returns-in_err-read_date-2-clause-none c =
    rw c.from_residual-in_err-read_date-2.ensures
    (λ m s. no_date_before c.args.bytes.now _ _ m.time m.year m.month m.day c.in-Some.ensures c.in_err-read_date-2.ensures.value s)

pub returns-in_err-read_time-clause-none : goal.returns-in_err-read_time-clause-none
returns-in_err-read_time-clause-none c =
    rw c.from_residual-in_err-read_time.ensures
    (λ m s. no_time_after c.args.bytes.now _ _ m.time m.year m.month m.day c.in-Some.ensures c.in_err-read_time.ensures.value s)
