-- A position, as contracts see it.
use Rattle.shogi_board.specs.declared.color.Color.{Color}
use Rattle.shogi_board.specs.declared.color.Color.TheVariants.{Black}
use Rattle.shogi_board.specs.Cells.{even_cells}
use Rattle.shogi_board.specs.Material.{Material}
use Rattle.shogi_board.specs.Totals.{bare_board}

-- the board and both hands, and the side to move
pub record Placed : Type 0 where
  pub material : Material
  pub side : Color

-- the even position, black to move
abbrev pub even_start : Placed
even_start = record { material = bare_board even_cells; side = Black }
