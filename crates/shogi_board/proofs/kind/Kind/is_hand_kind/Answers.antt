use Rattle.std.proofs.Common.{rules}
use Rattle.shogi_board.proofs.kind.Kind.is_hand_kind.Goals as goal

pub returns-in-Pawn : goal.returns-in-Pawn
returns-in-Pawn c = search rules
