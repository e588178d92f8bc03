use Rattle.std.proofs.Common.{refl}
use Rattle.shogi_session.proofs.PositionRead.{otherwise}
use Rattle.shogi_session.proofs.EngineRows.{begun, still}
use Rattle.shogi_session.proofs.Unnamed.{not_new}
use Rattle.shogi_session.proofs.bridge.begin.Goals as goal

pub returns-then-not-is_new : goal.returns-then-not-is_new
returns-then-not-is_new c = λ d client.
    still d _ _ _ client client _ c.no_lines.result (not_new d _ client (otherwise _ _ c.if-not-is_new.true c.is_new.ensures)) refl refl refl
    c.no_lines.ensures.engine c.no_lines.ensures.server c.no_lines.ensures.status

pub returns : goal.returns
returns c = λ d client.
    begun d _ client c.in_ok-out.out (c.is_new.ensures.0 c.if-not-is_new.false)
    c.in_ok-out.ensures.engine c.in_ok-out.ensures.server c.in_ok-out.ensures.status
