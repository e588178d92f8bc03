use Rattle.std.proofs.Common.{◌<◌}
use Rattle.shogi_board.specs.Squares.{place}
use Rattle.shogi_board.specs.declared.square.Square.{Square}
use Rattle.shogi_rules.proofs.Checks.{KeptTo}
use Rattle.shogi_rules.proofs.evasions.has_evasion.Given as goal

abbrev pub invariant-loop-n : goal.invariant-loop-n
invariant-loop-n l = (t : Square) → place t < l.n → KeptTo l.situation t → ⊥
