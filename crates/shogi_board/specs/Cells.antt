-- The board: what is on each of the 81 squares, in their order.
use Rattle.std.specs.Prelude.{◌≡◌, ◌++◌, List, [], ◌∷◌, Option, Some, None, slice_index_or, replicate}
use Rattle.shogi_board.specs.declared.color.Color.{Color}
use Rattle.shogi_board.specs.declared.color.Color.TheVariants.{Black, White}
use Rattle.shogi_board.specs.declared.kind.Kind.{Kind}
use Rattle.shogi_board.specs.declared.kind.Kind.TheVariants.{Pawn, Lance, Knight, Silver, Gold, Bishop, Rook, King}
use Rattle.shogi_board.specs.declared.kind.Piece.{Piece}
use Rattle.shogi_board.specs.declared.square.Square.{Square}
use Rattle.shogi_board.specs.Squares.{place, file_of}

abbrev pub Cells : Type 0
Cells = List (Option Piece)

abbrev pub piece : Color → Kind → Option Piece
piece color kind = Some (record { color = color; kind = kind })

-- what is on a square
abbrev pub at : Cells → Square → Option Piece
at cells s = slice_index_or cells (place s) None

-- an unpromoted pawn of that colour is on the square's file
abbrev pub HasPawnOnFile : Cells → Color → Square → Type 0
HasPawnOnFile cells color s = (t : Square) × (file_of t ≡ file_of s)
    × (at cells t ≡ piece color Pawn)

-- the empty board
abbrev pub no_cells : Cells
no_cells = replicate 81 None

-- one file of the even board: the two back pieces, what is on the ranks 2 and 8, and the pawns
abbrev pub even_file : Kind → Option Piece → Option Piece → Cells
even_file back second eighth =
    piece White back ∷ second ∷ piece White Pawn ∷ None ∷ None ∷ None ∷ piece Black Pawn ∷ eighth
    ∷ piece Black back ∷ []

-- the even board, from file 1 to file 9
abbrev pub even_cells : Cells
even_cells =
    even_file Lance None None
    ++ even_file Knight (piece White Bishop) (piece Black Rook)
    ++ even_file Silver None None
    ++ even_file Gold None None
    ++ even_file King None None
    ++ even_file Gold None None
    ++ even_file Silver None None
    ++ even_file Knight (piece White Rook) (piece Black Bishop)
    ++ even_file Lance None None
