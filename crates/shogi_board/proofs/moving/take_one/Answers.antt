use Rattle.std.proofs.Common.{rules}
use Rattle.shogi_board.proofs.moving.take_one.Goals as goal

pub returns : goal.returns
returns c = search rules
