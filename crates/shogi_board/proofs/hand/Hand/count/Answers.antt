use Rattle.std.proofs.Common.{rules}
use Rattle.shogi_board.proofs.hand.Hand.count.Goals as goal

pub returns-else-is_hand_kind : goal.returns-else-is_hand_kind
returns-else-is_hand_kind c = search rules
