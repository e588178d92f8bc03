use Rattle.csa_text.proofs.TimesRead.{no_whole, no_front, no_fraction}
use Rattle.csa_text.proofs.time.read_time.Goals as goal

pub returns-in_err-digits : goal.returns-in_err-digits
returns-in_err-digits c =
    rw c.from_residual.ensures (no_whole c.args.text.now c.in_err-digits.ensures (rw c.in_default.is at c.read_seconds.ensures))

pub returns-in_err-seconds : goal.returns-in_err-seconds
returns-in_err-seconds c =
    rw c.from_residual-in_err-seconds.ensures (no_front c.args.text.now _ _ c.in_ok-digits.ensures c.in_err-seconds.ensures)

pub returns-in_err-fraction : goal.returns-in_err-fraction
returns-in_err-fraction c =
    rw c.from_residual-in_err-fraction.ensures (no_fraction c.args.text.now _ _ c.in_ok-digits.ensures c.in_err-fraction.ensures.value)
