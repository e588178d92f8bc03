use Rattle.std.proofs.Common.{◌∙◌, codes, refl}
use Rattle.session_lines.proofs.OneLine.{one_text}
use Rattle.host_and_sample.proofs.HostRows.{logged_out}
use Rattle.host_and_sample.proofs.host.log_out.Goals as goal

pub returns-clause-row : goal.returns-clause-row
returns-clause-row c = λ config seconds.
    logged_out config _ _ seconds _ (λ e. let t = c.is_ended.ensures.1 e in let f = c.if-is_ended.false in cc) refl
    (c.in_ok-one.ensures.value ∙ one_text (codes "LOGOUT:completed"))
