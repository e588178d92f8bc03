-- For private functions: where an attack on a square may come from.
-- A reader of the public contracts may skip this file.
use Rattle.std.specs.Prelude.{ℕ, ◌≤◌}
use Rattle.shogi_board.specs.declared.color.Color.{Color}
use Rattle.shogi_board.specs.declared.danger.Danger.{Danger}
use Rattle.shogi_board.specs.declared.danger.Danger.TheVariants.{Anywhere, Towards, Nowhere}
use Rattle.shogi_board.specs.declared.square.Square.{Square}
use Rattle.shogi_board.specs.Cells.{Cells}
use Rattle.shogi_board.specs.Moves.{IsRay}
use Rattle.shogi_board.specs.Reach.{Attack, Attacked, InSight}
use Rattle.shogi_board.specs.Squares.{Direction, IsAway}

-- a is in sight from s, in the direction in which t lies
pub record SeenTowards (cells : Cells) (s t a : Square) : Type 0 where
  pub direction : Direction
  pub ray : IsRay direction
  pub sight : InSight cells s direction a
  pub distance : ℕ
  pub some : 1 ≤ distance
  pub lies : IsAway s direction distance t

-- whoever attacks the square does so from there
abbrev pub ComesFrom : Cells → Color → Square → Danger → Type 0
ComesFrom cells color s Anywhere = Unit {0}
ComesFrom cells color s (Towards t) = (a : Square) → Attack cells color a s
    → SeenTowards cells s t a
ComesFrom cells color s Nowhere = Attacked cells color s → ⊥
