use Rattle.std.proofs.Common.{◌<◌}
use Rattle.shogi_board.specs.Squares.{place}
use Rattle.shogi_board.specs.declared.square.Square.{Square}
use Rattle.shogi_rules.specs.Evasions.{MovesFrom}
use Rattle.shogi_rules.specs.Trying.{NoneOf}
use Rattle.shogi_rules.proofs.search.first_walk.Given as goal

abbrev pub invariant-loop-n : goal.invariant-loop-n
invariant-loop-n l = (f : Square) → place f < l.n → NoneOf l.situation (MovesFrom f)
