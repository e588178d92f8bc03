use Rattle.std.proofs.Common.{rules}
use Rattle.shogi_board.proofs.square.Square.at_place.Goals as goal

pub returns : goal.returns
returns c = search rules
