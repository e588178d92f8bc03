use Rattle.std.proofs.Common.{rules}
use Rattle.shogi_board.proofs.moves.Move.kind.Goals as goal

pub returns-in-Walk : goal.returns-in-Walk
returns-in-Walk c = search rules

pub returns-in-Walk-2 : goal.returns-in-Walk-2
returns-in-Walk-2 c = search rules
