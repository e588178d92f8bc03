-- Which positions are sound.
use Rattle.shogi_board.specs.Pieces.{opponent}
use Rattle.shogi_board.specs.Placed.{Placed}
use Rattle.shogi_board.specs.Reach.{InCheck}
use Rattle.shogi_board.specs.Totals.{IsWithinTotals}

-- the totals hold, and the king of the side not to move is not attacked
pub record IsSound (p : Placed) : Type 0 where
  pub within : IsWithinTotals p.material
  pub safe : InCheck p.material.board (opponent p.side) → ⊥
