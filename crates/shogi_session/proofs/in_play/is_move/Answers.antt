use Rattle.std.proofs.Common.{rules}
use Rattle.shogi_session.proofs.in_play.is_move.Goals as goal

pub returns-in-Move : goal.returns-in-Move
returns-in-Move c = search rules
