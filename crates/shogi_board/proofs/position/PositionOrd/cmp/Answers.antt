use Rattle.std.proofs.Common.{rules}
use Rattle.shogi_board.proofs.position.PositionOrd.cmp.Goals as goal

pub returns : goal.returns
returns c = search rules
