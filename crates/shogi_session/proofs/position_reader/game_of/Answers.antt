use Rattle.std.proofs.Common.{subst}
use Rattle.shogi_session.specs.PositionTexts.{HasCome}
use Rattle.shogi_session.proofs.BlockReads.{all_fits, none_now}
use Rattle.shogi_session.proofs.PositionGame.{position_refused, position_stated}
use Rattle.shogi_session.proofs.PositionRead.{otherwise}
use Rattle.shogi_session.proofs.position_reader.game_of.Goals as goal

pub returns-in_default : goal.returns-in_default
returns-in_default c = λ text come. none_now text (subst (HasCome text) c.in_default.is come)

pub returns-in-Ok : goal.returns-in-Ok
returns-in-Ok c = λ text come.
    let fed = subst (HasCome text) c.in-Reading.is come in
    let stated = c.in-Ok.ensures.stated text fed.read in
    position_stated text c.in-Ok.game (all_fits text c.in-Reading.reader c.in-Ok.game fed stated) stated

pub returns-else-lacks_memory : goal.returns-else-lacks_memory
returns-else-lacks_memory c = λ text come.
    let fed = subst (HasCome text) c.in-Reading.is come in
    position_refused text _ _ _
    (c.in-Err.ensures.refused text fed.read (otherwise c.lacks_memory.result _ c.if-lacks_memory.false c.lacks_memory.ensures))
