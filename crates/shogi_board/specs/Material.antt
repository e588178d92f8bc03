-- A board and two hands.
use Rattle.std.specs.Prelude.{ℕ, List, Option}
use Rattle.shogi_board.specs.declared.color.Color.{Color}
use Rattle.shogi_board.specs.declared.color.Color.TheVariants.{Black, White}
use Rattle.shogi_board.specs.declared.kind.Piece.{Piece}

-- the board, in the order of the squares, and the two bags, in the order of the kinds of a hand
pub record Material : Type 0 where
  pub board : List (Option Piece)
  pub black : List ℕ
  pub white : List ℕ

-- the bag of a side
abbrev pub bag_of : Material → Color → List ℕ
bag_of m Black = m.black
bag_of m White = m.white

-- with another bag for that side
abbrev pub with_bag : Material → Color → List ℕ → Material
with_bag m Black bag = record m { black = bag }
with_bag m White bag = record m { white = bag }
