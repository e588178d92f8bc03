-- For private functions and fields of `Position`: its parts, the key that it keeps, and what a
-- capture adds to the key. A reader of the public contracts may skip this file.
use Rattle.std.specs.Prelude.{◌≡◌, ℕ, ◌+◌, ◌*◌, List, Option, Some, None}
use Rattle.shogi_board.specs.declared.color.Color.{Color}
use Rattle.shogi_board.specs.declared.kind.Piece.{Piece}
use Rattle.shogi_board.specs.Pieces.{place_of}
use Rattle.shogi_board.specs.Cells.{Cells}
use Rattle.shogi_board.specs.Placed.{Placed}
use Rattle.shogi_board.specs.Sound.{IsSound}
use Rattle.shogi_board.specs.Keys.{color_number, held_key, key_of, kind_number}

-- the position of that board and those bags
abbrev pub laid : Cells → List ℕ → List ℕ → Color → Placed
laid board black white side =
    record { material = record { board = board; black = black; white = white }; side = side }

-- what is on a square, as a number: nothing, black's pieces and white's, by their kinds
abbrev pub cell_number : Option Piece → ℕ
cell_number None = 0
cell_number (Some p) = color_number p.color * 14 + kind_number p.kind + 1

-- what a hand counts more by a piece that it captures
abbrev pub captured_key : Color → Option Piece → ℕ
captured_key color None = 0
captured_key color (Some p) = held_key color (place_of p.kind)

-- a sound position, and its key
pub record IsKeyed (p : Placed) (number : ℕ) : Type 0 where
  pub sound : IsSound p
  pub key : key_of p ≡ number
