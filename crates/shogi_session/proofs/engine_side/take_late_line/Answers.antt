use Rattle.std.proofs.Common.{refl}
use Rattle.shogi_session.proofs.PositionRead.{otherwise}
use Rattle.shogi_session.proofs.EngineRows.{late, still}
use Rattle.shogi_session.proofs.Unnamed.{no_bestmove}
use Rattle.shogi_session.proofs.engine_side.take_late_line.Goals as goal

pub returns-then-not-is_best_move : goal.returns-then-not-is_best_move
returns-then-not-is_best_move c = λ d client other.
    still d _ _ _ client client _ c.no_lines.result (no_bestmove d client c.args.line.now (λ word best. otherwise _ _ c.if-not-is_best_move.true c.is_best_move.ensures (word, best))) c.requires refl refl
    c.no_lines.ensures.engine c.no_lines.ensures.server c.no_lines.ensures.status

pub returns : goal.returns
returns c = λ d client other.
    let found = c.is_best_move.ensures.0 c.if-not-is_best_move.false in
    late d _ client c.args.line.now found.0 c.no_lines-2.result c.requires other found.1
    c.no_lines-2.ensures.engine c.no_lines-2.ensures.server c.no_lines-2.ensures.status
