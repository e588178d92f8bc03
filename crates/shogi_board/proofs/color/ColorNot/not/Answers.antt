use Rattle.std.proofs.Common.{rules}
use Rattle.shogi_board.proofs.color.ColorNot.not.Goals as goal

pub returns-in-White : goal.returns-in-White
returns-in-White c = search rules
