use Rattle.std.proofs.Common.{ap, subst, sym, ◌∙◌}
use Rattle.shogi_session.specs.Offers.{IsOfferOf, offer_of}
use Rattle.shogi_session.specs.Phases.{client_of}
use Rattle.bridge_table.specs.State.{summary}
use Rattle.shogi_session.proofs.ServerRows.{agreed_phase, offered, summary_agreed, summary_failed}
use Rattle.shogi_session.proofs.server_side.end_summary.Goals as goal

pub returns-in-Ok-Some-clause-keeps : goal.returns-in-Ok-Some-clause-keeps
returns-in-Ok-Some-clause-keeps c =
    let tells = subst (λ found. IsOfferOf c.in-Summary.reader (offer_of found)) c.in-Ok-Some.field-0-is c.in-Ok-Some.ensures.stated in
    agreed_phase c.agree.result c.agree.new.phase c.in-Ok-Some.offer (offered c.in-Summary.reader c.in-Ok-Some.offer tells) c.agree.ensures.phase c.agree.ensures.given_up

pub returns-in-Ok-Some-clause-answer : goal.returns-in-Ok-Some-clause-answer
returns-in-Ok-Some-clause-answer c = λ d engine.
    let tells = subst (λ found. IsOfferOf c.in-Summary.reader (offer_of found)) c.in-Ok-Some.field-0-is c.in-Ok-Some.ensures.stated in
    summary_agreed c.agree.result d engine _ c.in-Summary.reader c.in-Ok-Some.offer c.agree.new.phase (ap client_of c.in-Summary.is) tells c.agree.ensures.phase
    c.agree.ensures.engine c.agree.ensures.server c.agree.ensures.status

pub returns-in-Ok-None-clause-answer : goal.returns-in-Ok-None-clause-answer
returns-in-Ok-None-clause-answer c = λ d engine.
    summary_failed d engine _ _ c.in-Summary.reader c.failed.result (ap client_of c.in-Summary.is)
    (subst (λ found. IsOfferOf c.in-Summary.reader (offer_of found)) c.in-Ok-None.field-0-is c.in-Ok-None.ensures.stated)
    (ap summary (c.in-Ok-None.ensures.unstated c.in-Ok-None.field-0-is) ∙ sym (ap client_of c.in-Summary.is))
    (c.failed.ensures.engine, c.failed.ensures.server, c.failed.ensures.status)
