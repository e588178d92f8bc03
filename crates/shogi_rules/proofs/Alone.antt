-- A position alone does not occur four times.
use Rattle.std.proofs.Common.{[], ◌∷◌, arith}
use Rattle.std.proofs.lemmas.List.Sums.{count_by-le-length}
use Rattle.shogi_board.specs.Placed.{Placed}
use Rattle.shogi_board.specs.Same.{same_position}
use Rattle.shogi_rules.specs.Positions.{Over, alone}

pub not-over-alone : (p : Placed) → Over (alone p) → ⊥
not-over-alone p h = let few = count_by-le-length (λ (q : Placed). same_position q p) (p ∷ []) in omega (arith, few)
