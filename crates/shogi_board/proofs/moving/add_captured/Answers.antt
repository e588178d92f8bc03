use Rattle.std.proofs.Common.{rules}
use Rattle.shogi_board.proofs.moving.add_captured.Goals as goal

pub returns-in-Some : goal.returns-in-Some
returns-in-Some c = search rules
