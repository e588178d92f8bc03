use Rattle.std.proofs.Common.{refl, sym, ap, subst, ◌∙◌}
use Rattle.shogi_session.specs.declared.phase.GameStage.TheVariants as stages
use Rattle.shogi_session.specs.Phases.{IsPhase, Reacts, client_of, match_in, play_client, staged}
use Rattle.bridge_table.specs.Events.{server_end}
use Rattle.shogi_session.proofs.ServerRows.{hung_up, phase_not_over, play_not_over, quiet, server_gone}
use Rattle.shogi_session.proofs.Unnamed.{server_over}
use Rattle.shogi_session.proofs.bridge.lose_server.Goals as goal

pub returns-in-Closing-clause-answer : goal.returns-in-Closing-clause-answer
returns-in-Closing-clause-answer c = λ d engine.
    subst (λ x. Reacts d engine (client_of x) server_end c.silent.result engine (play_client (record c.in-InGame.play { stage = stages.Ended c.in-Closing.stated c.in-Closing.game_result })))
    (sym c.in-InGame.is)
    (hung_up d engine c.in-InGame.play c.in-Closing.stated c.in-Closing.game_result c.silent.result c.in-Closing.is (c.silent.ensures.engine, c.silent.ensures.server, c.silent.ensures.status))

pub returns-in-Ended-clause-answer : goal.returns-in-Ended-clause-answer
returns-in-Ended-clause-answer c = λ d engine.
    quiet d engine _ _ _ _ c.no_lines.result (server_over d engine _ _ _)
    (ap client_of c.in-InGame.is ∙ ap (staged (match_in c.in-InGame.play) c.in-InGame.play.game) c.in-Ended.is) (sym (ap client_of c.in-InGame.is))
    (c.no_lines.ensures.engine, c.no_lines.ensures.server, c.no_lines.ensures.status)

pub returns-in_default-stage : goal.returns-in_default-stage
returns-in_default-stage c = record {
  keeps = subst IsPhase c.in-InGame.is c.requires.phase;
  answer = λ d engine.
      let other = play_not_over c.in-InGame.play c.in_default-stage.not-Closing c.in_default-stage.not-Ended in
      subst (λ x. Reacts d engine (client_of x) server_end c.failed.result engine (play_client c.in-InGame.play)) (sym c.in-InGame.is)
      (server_gone d engine _ _ c.failed.result other.0 other.1 refl (c.failed.ensures.engine, c.failed.ensures.server, c.failed.ensures.status));
}

pub returns-in_default : goal.returns-in_default
returns-in_default c = record {
  keeps = c.requires.phase;
  answer = λ d engine.
      let other = phase_not_over c.args.phase.now c.in_default.not-InGame in
      server_gone d engine _ _ c.failed-in_default.result other.0 other.1 refl (c.failed-in_default.ensures.engine, c.failed-in_default.ensures.server, c.failed-in_default.ensures.status);
}
