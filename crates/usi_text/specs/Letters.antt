-- How squares and kinds are spelled.
use Rattle.std.specs.Prelude.{ℕ, ◌+◌, ◌-◌, List, [], ◌∷◌, ◌++◌, codes, if◌then◌else◌}
use Prim.Native.Char.{code}
use Rattle.shogi_board.specs.declared.color.Color.{Color}
use Rattle.shogi_board.specs.declared.color.Color.TheVariants.{Black, White}
use Rattle.shogi_board.specs.declared.kind.Kind.{Kind}
use Rattle.shogi_board.specs.declared.kind.Kind.TheVariants.{Pawn, Lance, Knight, Silver, Gold, Bishop, Rook, King, ProPawn, ProLance, ProKnight, ProSilver, Horse, Dragon}
use Rattle.shogi_board.specs.declared.kind.Piece.{Piece}
use Rattle.shogi_board.specs.declared.square.Square.{Square}
use Rattle.shogi_board.specs.Pieces.{is_promoted}
use Rattle.shogi_board.specs.Squares.{file_of, rank_of}

-- the digit of the file, and the letter of the rank: a for 1 to i for 9
abbrev pub square_text : Square → List ℕ
square_text s = (code "0" + file_of s) ∷ (((code "a" - 1) + rank_of s)) ∷ []

-- the code of the capital letter; a promoted kind has that of its unpromoted kind
abbrev pub letter : Kind → ℕ
letter Pawn = code "P"
letter Lance = code "L"
letter Knight = code "N"
letter Silver = code "S"
letter Gold = code "G"
letter Bishop = code "B"
letter Rook = code "R"
letter King = code "K"
letter ProPawn = code "P"
letter ProLance = code "L"
letter ProKnight = code "N"
letter ProSilver = code "S"
letter Horse = code "B"
letter Dragon = code "R"

-- a capital letter for black, a small one for white
abbrev pub color_letter : Color → Kind → ℕ
color_letter Black kind = letter kind
color_letter White kind = letter kind + (code "a" - code "A")

abbrev pub side_letter : Piece → ℕ
side_letter p = color_letter p.color p.kind

-- a piece on the board: + before the letter if it is promoted
abbrev pub piece_text : Piece → List ℕ
piece_text p = if is_promoted p.kind then codes "+" ++ (side_letter p ∷ []) else side_letter p ∷ []
