use Rattle.std.proofs.Common.{rules}
use Rattle.shogi_board.proofs.setup.Setup.count_with_rest.Goals as goal

pub returns : goal.returns
returns c = search rules
