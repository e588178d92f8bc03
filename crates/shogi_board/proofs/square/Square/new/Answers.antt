use Rattle.std.proofs.Common.{rules}
use Rattle.shogi_board.proofs.square.Square.new.Goals as goal

pub returns-else-file-ge1 : goal.returns-else-file-ge1
returns-else-file-ge1 c = search rules
