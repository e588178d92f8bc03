use Rattle.std.proofs.Common.{inl, inr, ap, subst, sym}
use Rattle.std.specs.Prelude.{MatchResult}
use Rattle.csa_record.specs.Limits.{IsOneLine}
use Rattle.bridge_table.specs.Events.{trimmed}
use Rattle.shogi_session.specs.Phases.{Reacts, Stays, client_of}
use Rattle.bridge_table.specs.Promises.{HoldsLine, event_of}
use Rattle.bridge_table.proofs.AlwaysAsks.{trimmed_line}
use Rattle.shogi_session.proofs.ServerRows.{begun_or, too_long}
use Rattle.shogi_session.proofs.bridge.answer.Goals as goal

pub take_server_line-requires-clause-line : goal.take_server_line-requires-clause-line
take_server_line-requires-clause-line c =
    subst IsOneLine (sym c.without_last_spaces-in-ServerLine.ensures.value)
    (trimmed_line c.in-ServerLine.line.now (subst (λ x. HoldsLine (event_of x)) c.in-ServerLine.is c.requires.line))

pub returns-in-Begin-clause-answer : goal.returns-in-Begin-clause-answer
returns-in-Begin-clause-answer c =
    subst (λ x. MatchResult c.begin.result
    (λ out. Reacts c.args.config.now c.args.engine.now (client_of c.args.phase.now) (trimmed (event_of x)) out c.begin.new.engine (client_of c.args.phase.now))
    (λ fault. Stays c.args.config.now c.args.engine.now (client_of c.args.phase.now) (trimmed (event_of x)) c.begin.new.engine (client_of c.args.phase.now)))
    (sym c.in-Begin.is) (begun_or c.begin.result _ _ _ _ (c.begin.ensures c.args.config.now (client_of c.args.phase.now)))

pub returns-in-EngineEnd-clause-answer : goal.returns-in-EngineEnd-clause-answer
returns-in-EngineEnd-clause-answer c =
    subst (λ x. Reacts c.args.config.now c.args.engine.now (client_of c.args.phase.now) (trimmed (event_of x)) c.lose_engine.result c.args.engine.now (client_of c.args.phase.now))
    (sym c.in-EngineEnd.is) (c.lose_engine.ensures c.args.config.now (client_of c.args.phase.now))

pub returns-in-ServerEnd-clause-answer : goal.returns-in-ServerEnd-clause-answer
returns-in-ServerEnd-clause-answer c =
    subst (λ x. Reacts c.args.config.now c.args.engine.now (client_of c.args.phase.now) (trimmed (event_of x)) c.lose_server.result c.args.engine.now (client_of c.lose_server.new.phase))
    (sym c.in-ServerEnd.is) (c.lose_server.ensures.answer c.args.config.now c.args.engine.now)

pub returns-in-EngineLong-clause-answer : goal.returns-in-EngineLong-clause-answer
returns-in-EngineLong-clause-answer c =
    too_long _ _ _ (trimmed (event_of c.args.event)) c.failed.result
    (elim c.in-EngineLong.is [ inl e ↦ inl (ap (λ x. trimmed (event_of x)) e) | inr e ↦ inr (ap (λ x. trimmed (event_of x)) e) ])
    (c.failed.ensures.engine, c.failed.ensures.server, c.failed.ensures.status)
