use Rattle.std.proofs.Common.{refl, ap, subst, sym, ◌∙◌}
use Rattle.bridge_table.specs.Events.{server_line}
use Rattle.shogi_session.specs.Offers.{offer_in}
use Rattle.bridge_table.specs.State.{agreeing}
use Rattle.shogi_session.specs.Phases.{Reacts, client_of}
use Rattle.shogi_session.proofs.ServerRows.{ended_or, received_or, quiet, started_from}
use Rattle.shogi_session.proofs.Unnamed.{idle_line}
use Rattle.shogi_session.proofs.server_side.take_server_line.Goals as goal

pub returns-in-Idle-clause-answer : goal.returns-in-Idle-clause-answer
returns-in-Idle-clause-answer c =
    quiet _ _ _ _ _ _ c.no_lines.result (idle_line _ _ c.args.line.now) (ap client_of c.in-Idle.is) refl
    (c.no_lines.ensures.engine, c.no_lines.ensures.server, c.no_lines.ensures.status)

pub returns-then-is_same-clause-answer : goal.returns-then-is_same-clause-answer
returns-then-is_same-clause-answer c =
    ended_or c.end_summary.result _ _ _ _ c.in-Summary.reader c.args.line.now (ap client_of c.in-Summary.is) (c.is_same.ensures.answer.0 c.if-is_same.true)
    (c.end_summary.ensures.answer _ _) c.end_summary.ensures.given_up

pub returns-else-is_same-clause-answer : goal.returns-else-is_same-clause-answer
returns-else-is_same-clause-answer c =
    received_or c.take_summary_line.result _ _ _ _ _ c.args.line.now (ap client_of c.in-Summary.is) c.take_summary_line.ensures.answer

pub returns-then-not-is_start_line-clause-answer : goal.returns-then-not-is_start_line-clause-answer
returns-then-not-is_start_line-clause-answer c =
    subst (λ x. Reacts c.args.config.now c.args.engine.now x (server_line c.args.line.now) c.take_line_before_start.result c.args.engine.now (agreeing (offer_in c.in-Agreeing.offer)))
    (sym (ap client_of c.in-Agreeing.is)) (c.take_line_before_start.ensures c.args.config.now c.args.engine.now (offer_in c.in-Agreeing.offer))

pub returns-in_ok-out-in-Agreeing-clause-answer : goal.returns-in_ok-out-in-Agreeing-clause-answer
returns-in_ok-out-in-Agreeing-clause-answer c =
    started_from _ _ _ _ _ c.in-Agreeing.offer c.args.line.now c.in_ok-out-in-Agreeing.out c.in-Agreeing.is c.requires.phase
    (c.start.ensures c.in-Agreeing.offer refl) (sym c.is_start_line.ensures.value ∙ c.if-not-is_start_line.false) c.in_ok-out-in-Agreeing.ensures.goes_on
