use Rattle.std.proofs.Common.{refl}
use Rattle.shogi_session.proofs.EngineRows.{deaf, still}
use Rattle.shogi_session.proofs.engine_side.take_engine_line.Goals as goal

pub returns-in-New-clause-answer : goal.returns-in-New-clause-answer
returns-in-New-clause-answer c =
    still _ _ _ _ _ _ _ c.no_lines.result (deaf _ _ _ c.args.line.now c.in-New.is) refl refl refl
    c.no_lines.ensures.engine c.no_lines.ensures.server c.no_lines.ensures.status
