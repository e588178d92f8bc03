use Rattle.std.proofs.Common.{refl}
use Rattle.shogi_session.proofs.PositionRead.{otherwise}
use Rattle.shogi_session.proofs.EngineRows.{greeted, still}
use Rattle.shogi_session.proofs.Unnamed.{no_usiok}
use Rattle.shogi_session.proofs.engine_side.greet.Goals as goal

pub returns-then-not-is_usi_ok : goal.returns-then-not-is_usi_ok
returns-then-not-is_usi_ok c = λ d client.
    still d _ _ _ client client _ c.no_lines.result (no_usiok d client c.args.line.now (otherwise _ _ c.if-not-is_usi_ok.true c.is_usi_ok.ensures)) c.requires refl refl
    c.no_lines.ensures.engine c.no_lines.ensures.server c.no_lines.ensures.status

pub returns : goal.returns
returns c = λ d client.
    greeted d _ client c.args.line.now c.in_ok-out.out c.requires (c.is_usi_ok.ensures.0 c.if-not-is_usi_ok.false)
    c.in_ok-out.ensures.engine c.in_ok-out.ensures.server c.in_ok-out.ensures.status
