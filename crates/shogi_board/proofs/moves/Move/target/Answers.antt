use Rattle.std.proofs.Common.{rules}
use Rattle.shogi_board.proofs.moves.Move.target.Goals as goal

pub returns-in-Walk : goal.returns-in-Walk
returns-in-Walk c = search rules
