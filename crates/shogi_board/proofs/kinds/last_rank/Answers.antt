use Rattle.std.proofs.Common.{rules}
use Rattle.shogi_board.proofs.kinds.last_rank.Goals as goal

pub returns-in-Knight : goal.returns-in-Knight
returns-in-Knight c = search rules
