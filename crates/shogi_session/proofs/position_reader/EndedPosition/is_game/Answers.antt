use Rattle.std.proofs.Common.{subst, sym}
use Rattle.bridge_table.specs.Summary.{TellsPosition}
use Rattle.shogi_session.specs.PositionTexts.{IsPositionRead}
use Rattle.shogi_session.proofs.position_reader.EndedPosition.is_game.Goals as goal

pub returns-in-None-clause-none : goal.returns-in-None-clause-none
returns-in-None-clause-none c = λ is g p.
    (subst (IsPositionRead c.self.inside.text.bytes) c.in-None.is c.self.invariant) g (subst (λ text. TellsPosition text g) (sym c.self.view_is) p)
