use Rattle.std.proofs.Common.{rules}
use Rattle.shogi_board.proofs.position.Position.hand.Goals as goal

pub returns-in-Black-clause-value : goal.returns-in-Black-clause-value
returns-in-Black-clause-value c = search rules
