use Rattle.std.proofs.Common.{rules}
use Rattle.shogi_board.proofs.kind.Kind.unpromoted.Goals as goal

pub returns-in-Horse : goal.returns-in-Horse
returns-in-Horse c = search rules
