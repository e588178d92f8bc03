use Rattle.std.proofs.Common.{rules}
use Rattle.shogi_session.proofs.game_end.perpetual_ending.Goals as goal

pub returns-in-Lose : goal.returns-in-Lose
returns-in-Lose c = search rules

pub returns-in-Win : goal.returns-in-Win
returns-in-Win c = search rules
