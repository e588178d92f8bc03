-- What a setup holds, as contracts see it.
use Rattle.std.specs.Prelude.{Bool}
use Rattle.shogi_board.specs.Material.{Material}

-- the board and both hands so far, and whether the rest was given
pub record Layout : Type 0 where
  pub material : Material
  pub rest_given : Bool
