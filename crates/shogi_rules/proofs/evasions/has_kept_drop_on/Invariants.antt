use Rattle.std.proofs.Common.{◌<◌}
use Rattle.shogi_board.specs.Pieces.{place_of}
use Rattle.shogi_board.specs.declared.kind.Kind.{Kind}
use Rattle.shogi_board.specs.Legal.{Keeps}
use Rattle.shogi_board.specs.declared.moves.Move.TheVariants.{Put}
use Rattle.shogi_rules.proofs.evasions.has_kept_drop_on.Given as goal

abbrev pub invariant-loop-n : goal.invariant-loop-n
invariant-loop-n l = (k : Kind) → place_of k < l.n → Keeps l.situation (Put l.to k) → ⊥
