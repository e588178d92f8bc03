use Rattle.std.proofs.Common.{rules}
use Rattle.shogi_board.proofs.board_rules.may_promote.Goals as goal

pub returns-else-in_zone : goal.returns-else-in_zone
returns-else-in_zone c = search rules
