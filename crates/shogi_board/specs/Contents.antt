-- For private functions and fields of `Cell`: the byte of what is on a square.
-- A reader of the public contracts may skip this file.
use Rattle.std.specs.Prelude.{◌≡◌, Option, Some, None}
use Rattle.std.proofs.Common.{refl}
use Rattle.shogi_board.specs.declared.cell.Code.{Code}
use Rattle.shogi_board.specs.declared.cell.Code.TheVariants.{Empty, BlackPawn, BlackLance, BlackKnight, BlackSilver, BlackGold, BlackBishop, BlackRook, BlackKing, BlackProPawn, BlackProLance, BlackProKnight, BlackProSilver, BlackHorse, BlackDragon, WhitePawn, WhiteLance, WhiteKnight, WhiteSilver, WhiteGold, WhiteBishop, WhiteRook, WhiteKing, WhiteProPawn, WhiteProLance, WhiteProKnight, WhiteProSilver, WhiteHorse, WhiteDragon}
use Rattle.shogi_board.specs.declared.color.Color.{Color}
use Rattle.shogi_board.specs.declared.color.Color.TheVariants.{Black, White}
use Rattle.shogi_board.specs.declared.kind.Kind.{Kind}
use Rattle.shogi_board.specs.declared.kind.Kind.TheVariants.{Pawn, Lance, Knight, Silver, Gold, Bishop, Rook, King, ProPawn, ProLance, ProKnight, ProSilver, Horse, Dragon}
use Rattle.shogi_board.specs.declared.kind.Piece.{Piece}
use Rattle.shogi_board.specs.Cells.{piece}

-- the piece that a code stands for
abbrev pub piece_of : Code → Option Piece
piece_of Empty = None
piece_of BlackPawn = piece Black Pawn
piece_of BlackLance = piece Black Lance
piece_of BlackKnight = piece Black Knight
piece_of BlackSilver = piece Black Silver
piece_of BlackGold = piece Black Gold
piece_of BlackBishop = piece Black Bishop
piece_of BlackRook = piece Black Rook
piece_of BlackKing = piece Black King
piece_of BlackProPawn = piece Black ProPawn
piece_of BlackProLance = piece Black ProLance
piece_of BlackProKnight = piece Black ProKnight
piece_of BlackProSilver = piece Black ProSilver
piece_of BlackHorse = piece Black Horse
piece_of BlackDragon = piece Black Dragon
piece_of WhitePawn = piece White Pawn
piece_of WhiteLance = piece White Lance
piece_of WhiteKnight = piece White Knight
piece_of WhiteSilver = piece White Silver
piece_of WhiteGold = piece White Gold
piece_of WhiteBishop = piece White Bishop
piece_of WhiteRook = piece White Rook
piece_of WhiteKing = piece White King
piece_of WhiteProPawn = piece White ProPawn
piece_of WhiteProLance = piece White ProLance
piece_of WhiteProKnight = piece White ProKnight
piece_of WhiteProSilver = piece White ProSilver
piece_of WhiteHorse = piece White Horse
piece_of WhiteDragon = piece White Dragon

abbrev pub black_code : Kind → Code
black_code Pawn = BlackPawn
black_code Lance = BlackLance
black_code Knight = BlackKnight
black_code Silver = BlackSilver
black_code Gold = BlackGold
black_code Bishop = BlackBishop
black_code Rook = BlackRook
black_code King = BlackKing
black_code ProPawn = BlackProPawn
black_code ProLance = BlackProLance
black_code ProKnight = BlackProKnight
black_code ProSilver = BlackProSilver
black_code Horse = BlackHorse
black_code Dragon = BlackDragon

abbrev pub white_code : Kind → Code
white_code Pawn = WhitePawn
white_code Lance = WhiteLance
white_code Knight = WhiteKnight
white_code Silver = WhiteSilver
white_code Gold = WhiteGold
white_code Bishop = WhiteBishop
white_code Rook = WhiteRook
white_code King = WhiteKing
white_code ProPawn = WhiteProPawn
white_code ProLance = WhiteProLance
white_code ProKnight = WhiteProKnight
white_code ProSilver = WhiteProSilver
white_code Horse = WhiteHorse
white_code Dragon = WhiteDragon

abbrev pub code_of_side : Color → Kind → Code
code_of_side Black kind = black_code kind
code_of_side White kind = white_code kind

-- the code of a piece, or the empty one
abbrev pub code_of : Option Piece → Code
code_of None = Empty
code_of (Some p) = code_of_side p.color p.kind

-- each code is that of its piece
pub code-back : (x : Code) → code_of (piece_of x) ≡ x
code-back Empty = refl
code-back _ = refl
