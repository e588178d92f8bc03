use Rattle.std.proofs.Common.{rules, ap, ◌∙◌}
use Rattle.std.proofs.lemmas.Result.{err_from_is_err_and}
use Rattle.host_and_sample.specs.Hosting.{HostSession}
use Rattle.host_and_sample.specs.HostAnswers.{state_of}
use Rattle.host_and_sample.proofs.HostSteps.{stepped, row_bytes, over_bytes, over_stays}
use Rattle.host_and_sample.proofs.host.Host.step.Goals as goal

pub returns-clause-row : goal.returns-clause-row
returns-clause-row c =
    let r = stepped _ _ _ _ c.args.line.now _ c.args.seconds _ _ c.self.view_is (ap state_of c.replace-stage.ensures.value) c.without_last_spaces.ensures.value c.in_ok-reply.ensures.row in
    (r.0, r.1)

pub returns-clause-to_client : goal.returns-clause-to_client
returns-clause-to_client c = λ lines row.
    row_bytes _ _ _ _ _ _ lines
    (stepped _ _ _ _ c.args.line.now _ c.args.seconds _ _ c.self.view_is (ap state_of c.replace-stage.ensures.value) c.without_last_spaces.ensures.value c.in_ok-reply.ensures.row)
    row

pub returns-clause-silent : goal.returns-clause-silent
returns-clause-silent c = λ over.
    over_bytes _ _ _ _ _ _ over
    (stepped _ _ _ _ c.args.line.now _ c.args.seconds _ _ c.self.view_is (ap state_of c.replace-stage.ensures.value) c.without_last_spaces.ensures.value c.in_ok-reply.ensures.row)

pub returns-clause-stays : goal.returns-clause-stays
returns-clause-stays c = λ over.
    over_stays _ _ _ _ _ _ over
    (stepped _ _ _ _ c.args.line.now _ c.args.seconds _ _ c.self.view_is (ap state_of c.replace-stage.ensures.value) c.without_last_spaces.ensures.value c.in_ok-reply.ensures.row)

pub returns-in_err-reply-clause-over : goal.returns-in_err-reply-clause-over
returns-in_err-reply-clause-over c = λ over.
    let p = err_from_is_err_and c.from_residual.result c.from_residual.ensures.1 in
    rw p.1 (c.in_err-reply.ensures.over (ap state_of c.replace-stage.ensures.value ∙ (ap (λ (h : HostSession). h.state) c.self.view_is ∙ over)))

pub returns-in_err-reply-clause-lost : goal.returns-in_err-reply-clause-lost
returns-in_err-reply-clause-lost c = search rules
