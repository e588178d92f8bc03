use Rattle.std.proofs.Common.{◌<◌}
use Rattle.shogi_board.specs.Squares.{place}
use Rattle.shogi_board.specs.declared.square.Square.{Square}
use Rattle.shogi_rules.proofs.Checks.{KeptWalk}
use Rattle.shogi_rules.proofs.evasions.has_kept_walk_to.Given as goal

abbrev pub invariant-loop-n : goal.invariant-loop-n
invariant-loop-n l = (from : Square) → place from < l.n → KeptWalk l.situation from l.to → ⊥
