use Rattle.shogi_session.proofs.PositionGame.{position_refused}
use Rattle.shogi_session.proofs.PositionRead.{otherwise}
use Rattle.shogi_session.proofs.position_reader.feed.Goals as goal

pub returns-else-lacks_memory : goal.returns-else-lacks_memory
returns-else-lacks_memory c = λ text read more g.
    position_refused _ _ _ _ (c.in-Err.ensures.refused text more read (otherwise c.lacks_memory.result _ c.if-lacks_memory.false c.lacks_memory.ensures)) g
