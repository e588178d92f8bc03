use Rattle.std.proofs.Common.{◌<◌}
use Rattle.shogi_board.specs.Squares.{place}
use Rattle.shogi_board.specs.declared.square.Square.{Square}
use Rattle.shogi_rules.specs.Trying.{IsWalkBetween, NoneOf}
use Rattle.shogi_rules.proofs.search.first_walk_from.Given as goal

abbrev pub invariant-loop-n : goal.invariant-loop-n
invariant-loop-n l = (t : Square) → place t < l.n → NoneOf l.situation (IsWalkBetween l.from t)
