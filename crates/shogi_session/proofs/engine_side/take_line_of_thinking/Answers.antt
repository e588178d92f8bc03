use Rattle.std.proofs.Common.{sym, subst}
use Rattle.std.specs.Prelude.{MatchResult}
use Rattle.bridge_table.specs.Events.{engine_line}
use Rattle.shogi_session.specs.Phases.{Reacts, Same, client_of, play_client}
use Rattle.shogi_session.proofs.EngineRows.{not_playing}
use Rattle.shogi_session.proofs.PositionRead.{otherwise}
use Rattle.shogi_session.proofs.engine_side.take_line_of_thinking.Goals as goal

pub returns-then-is_playing-clause-answer : goal.returns-then-is_playing-clause-answer
returns-then-is_playing-clause-answer c = λ d.
    subst (λ x. MatchResult c.take_answer.result
    (λ out. Reacts d c.args.engine.now (client_of x) (engine_line c.args.line.now) out c.take_answer.new.engine (play_client c.take_answer.new.play))
    (λ fault. Same c.args.engine.now (client_of x) c.take_answer.new.engine (play_client c.take_answer.new.play)))
    (sym c.in-InGame.is) (c.take_answer.ensures.answer d)

pub returns-else-is_playing-clause-answer : goal.returns-else-is_playing-clause-answer
returns-else-is_playing-clause-answer c = λ d.
    subst (λ x. Reacts d c.args.engine.now (client_of x) (engine_line c.args.line.now) c.take_late_line.result c.take_late_line.new.engine (play_client c.in-InGame.play))
    (sym c.in-InGame.is) (c.take_late_line.ensures d _ (not_playing c.in-InGame.play (otherwise _ _ c.if-is_playing.false c.is_playing.ensures)))
