use Rattle.shogi_session.proofs.PositionRead.{otherwise}
use Rattle.shogi_session.proofs.EngineRows.{engine_gone, over}
use Rattle.shogi_session.proofs.bridge.lose_engine.Goals as goal

pub returns-then-has_ended : goal.returns-then-has_ended
returns-then-has_ended c = λ d client.
    over d _ client c.no_lines.result (c.has_ended.ensures.0 c.if-has_ended.true)
    c.no_lines.ensures.engine c.no_lines.ensures.server c.no_lines.ensures.status

pub returns : goal.returns
returns c = λ d client.
    engine_gone d _ client c.failed.result (otherwise _ _ c.if-has_ended.false c.has_ended.ensures)
    c.failed.ensures.engine c.failed.ensures.server c.failed.ensures.status
