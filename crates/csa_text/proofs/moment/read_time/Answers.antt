use Rattle.csa_text.proofs.Moments.{time_found, whole_found}
use Rattle.csa_text.proofs.moment.read_time.Goals as goal

pub returns-in_err-hour-clause-value : goal.returns-in_err-hour-clause-value
returns-in_err-hour-clause-value c =
    rw c.from_residual.ensures (λ h m s t. c.in_err-hour.ensures.value h m s t.0)

pub returns-clause-value : goal.returns-clause-value
returns-clause-value c =
    time_found c.args.bytes.now c.in_ok-hour.hour c.in_ok-hour.minute c.in_ok-hour.second c.time_of.result c.in_ok-hour.ensures.value c.time_of.ensures.exists c.time_of.ensures.value

pub returns-clause-whole_seconds : goal.returns-clause-whole_seconds
returns-clause-whole_seconds c = whole_found _ _ _ c.time_of.result c.time_of.ensures.value
