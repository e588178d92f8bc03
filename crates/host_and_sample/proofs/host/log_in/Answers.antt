use Rattle.std.proofs.Common.{◌∙◌, codes, refl, sym}
use Rattle.session_lines.proofs.OneLine.{one_text}
use Rattle.host_and_sample.proofs.HostLines.{if_ok}
use Rattle.host_and_sample.proofs.HostRows.{incorrect, let_in}
use Rattle.host_and_sample.proofs.host.log_in.Goals as goal

pub returns-in-Some : goal.returns-in-Some
returns-in-Some c = λ seconds.
    if_ok c.offer.result _ _ c.offer.ensures (λ r h. let_in _ _ _ seconds _ _ _ c.in-Some.ensures.1 h.0 h.1)

pub returns-in_ok-one-in-None : goal.returns-in_ok-one-in-None
returns-in_ok-one-in-None c = λ seconds.
    incorrect _ _ _ seconds _ (sym c.first_word.ensures ∙ c.is_login.ensures.0 c.if-is_login.true) c.in-None.ensures refl
    (c.in_ok-one-in-None.ensures.value ∙ one_text (codes "LOGIN:incorrect"))
