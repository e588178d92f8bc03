use Rattle.std.proofs.Common.{◌≡◌, ℕ, ◌<◌, get_or}
use Rattle.shogi_board.specs.Attackers.{KnightAcross}
use Rattle.shogi_board.specs.Moves.{steps}
use Rattle.shogi_board.specs.Squares.{Direction}
use Rattle.shogi_board.specs.declared.kind.Kind.TheVariants.{Knight}
use Rattle.shogi_board.proofs.board.Board.attacker_by_jump.Given as goal

abbrev pub invariant-loop-direction : goal.invariant-loop-direction
invariant-loop-direction l =
    (k : ℕ) (d : Direction) → k < l.direction-index → get_or (steps Knight) k d ≡ d → KnightAcross l.self l.color l.square d → ⊥
