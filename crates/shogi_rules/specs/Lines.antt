-- For private functions and fields of `Line`: what it keeps, and when a side may play.
-- A reader of the public contracts may skip this file.
use Rattle.std.specs.Prelude.{◌≡◌, ◌<◌, ◌≤◌, List, length}
use Rattle.shogi_board.specs.Placed.{Placed}
use Rattle.shogi_board.specs.declared.color.Color.{Color}
use Rattle.shogi_board.specs.declared.moves.Move.{Move}
use Rattle.shogi_rules.specs.Positions.{Played, IsGame, Over, max_moves, now_of}

-- that side may play, if it has a legal move
pub record IsOpen (line : Played) (color : Color) : Type 0 where
  pub few : length line.moves < max_moves
  pub turn : color ≡ (now_of line).side
  pub not_over : Over line → ⊥

-- a start and the moves of a game from it
pub record IsLine (start : Placed) (moves : List Move) : Type 0 where
  pub game : IsGame start moves
  pub few : length moves ≤ max_moves
