-- How CSA writes sides, squares, kinds and moves.
use Rattle.std.specs.Prelude.{ℕ, ◌+◌, List, [], ◌∷◌, ◌++◌, Option, Some, None, codes}
use Rattle.shogi_board.specs.declared.color.Color.{Color}
use Rattle.shogi_board.specs.declared.color.Color.TheVariants.{Black, White}
use Rattle.shogi_board.specs.declared.kind.Kind.{Kind}
use Rattle.shogi_board.specs.declared.kind.Kind.TheVariants.{Pawn, Lance, Knight, Silver, Gold, Bishop, Rook, King, ProPawn, ProLance, ProKnight, ProSilver, Horse, Dragon}
use Rattle.shogi_board.specs.declared.kind.Piece.{Piece}
use Rattle.shogi_board.specs.declared.square.Square.{Square}
use Rattle.shogi_board.specs.Squares.{file_of, rank_of}
use Rattle.shogi_board.specs.declared.moves.Move.{Move}
use Rattle.shogi_board.specs.declared.moves.Move.TheVariants.{Walk, Put}

-- the sign of a side, `+` or `-`
abbrev pub sign : Color → ℕ
sign Black = 43
sign White = 45

-- the digits of the file and of the rank
abbrev pub square_text : Square → List ℕ
square_text s = (48 + file_of s) ∷ (48 + rank_of s) ∷ []

abbrev pub kind_code : Kind → List ℕ
kind_code Pawn = codes "FU"
kind_code Lance = codes "KY"
kind_code Knight = codes "KE"
kind_code Silver = codes "GI"
kind_code Gold = codes "KI"
kind_code Bishop = codes "KA"
kind_code Rook = codes "HI"
kind_code King = codes "OU"
kind_code ProPawn = codes "TO"
kind_code ProLance = codes "NY"
kind_code ProKnight = codes "NK"
kind_code ProSilver = codes "NG"
kind_code Horse = codes "UM"
kind_code Dragon = codes "RY"

-- a cell of a rank: the sign and the kind of its piece, or a star between spaces
abbrev pub cell_text : Option Piece → List ℕ
cell_text None = codes " * "
cell_text (Some p) = sign p.color ∷ kind_code p.kind

-- the square that the piece leaves, or `00` for a drop; the target; and the kind after the move
abbrev pub squares_text : Move → List ℕ
squares_text (Walk from to after) = square_text from ++ (square_text to ++ kind_code after)
squares_text (Put to dropped) = codes "00" ++ (square_text to ++ kind_code dropped)

-- the seven bytes of a move
abbrev pub move_text : Color → Move → List ℕ
move_text color m = sign color ∷ squares_text m
