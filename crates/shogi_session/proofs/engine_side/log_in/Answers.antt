use Rattle.std.proofs.Common.{refl}
use Rattle.shogi_session.proofs.PositionRead.{otherwise}
use Rattle.shogi_session.proofs.EngineRows.{readied, still}
use Rattle.shogi_session.proofs.Unnamed.{no_readyok}
use Rattle.shogi_session.proofs.engine_side.log_in.Goals as goal

pub returns-then-not-is_ready_ok-clause-answer : goal.returns-then-not-is_ready_ok-clause-answer
returns-then-not-is_ready_ok-clause-answer c =
    still _ _ _ _ _ _ _ c.no_lines.result (no_readyok _ _ c.args.line.now (otherwise _ _ c.if-not-is_ready_ok.true c.is_ready_ok.ensures)) c.requires.state refl refl
    c.no_lines.ensures.engine c.no_lines.ensures.server c.no_lines.ensures.status

pub returns-clause-answer : goal.returns-clause-answer
returns-clause-answer c =
    readied _ _ _ c.args.line.now c.in_ok-out.out c.requires.state (c.is_ready_ok.ensures.0 c.if-not-is_ready_ok.false)
    c.in_ok-out.ensures.engine c.in_ok-out.ensures.server c.in_ok-out.ensures.status
