use Rattle.std.proofs.Common.{rules}
use Rattle.shogi_board.proofs.kind.Kind.promoted.Goals as goal

pub returns-in-Rook : goal.returns-in-Rook
returns-in-Rook c = search rules

pub returns-in_default : goal.returns-in_default
returns-in_default c = search rules
