-- The board turned round, so that each side sits where the other sat.
use Rattle.std.specs.Prelude.{◌≡◌, ◌+◌, Option, Some, None, map, reverse}
use Rattle.shogi_board.specs.Cells.{Cells}
use Rattle.shogi_board.specs.Pieces.{opponent}
use Rattle.shogi_board.specs.Squares.{file_of, rank_of}
use Rattle.shogi_board.specs.declared.kind.Piece.{Piece}
use Rattle.shogi_board.specs.declared.square.Square.{Square}

abbrev pub turned_cell : Option Piece → Option Piece
turned_cell None = None
turned_cell (Some p) = Some (record p { color = opponent p.color })

abbrev pub turned : Cells → Cells
turned cells = reverse (map turned_cell cells)

-- t is where s comes to lie
abbrev pub IsTurned : Square → Square → Type 0
IsTurned s t = (file_of s + file_of t ≡ 10) × (rank_of s + rank_of t ≡ 10)
