-- The sides and the kinds of pieces.
use Rattle.std.specs.Prelude.{ℕ, Bool, true, false, not, ◌==◌, ◌&&◌, Option, Some, None}
use Rattle.shogi_board.specs.declared.color.Color.{Color}
use Rattle.shogi_board.specs.declared.color.Color.TheVariants.{Black, White}
use Rattle.shogi_board.specs.declared.kind.Kind.{Kind}
use Rattle.shogi_board.specs.declared.kind.Kind.TheVariants.{Pawn, Lance, Knight, Silver, Gold, Bishop, Rook, King, ProPawn, ProLance, ProKnight, ProSilver, Horse, Dragon}

abbrev pub opponent : Color → Color
opponent Black = White
opponent White = Black

abbrev pub same_color : Color → Color → Bool
same_color Black Black = true
same_color White White = true
same_color _ _ = false

-- the places of the kinds: first the seven that a hand may hold, then the king; a promoted kind has
-- the place of its unpromoted one
abbrev pub place_of : Kind → ℕ
place_of Pawn = 0
place_of Lance = 1
place_of Knight = 2
place_of Silver = 3
place_of Gold = 4
place_of Bishop = 5
place_of Rook = 6
place_of King = 7
place_of ProPawn = 0
place_of ProLance = 1
place_of ProKnight = 2
place_of ProSilver = 3
place_of Horse = 5
place_of Dragon = 6

abbrev pub is_promoted : Kind → Bool
is_promoted Pawn = false
is_promoted Lance = false
is_promoted Knight = false
is_promoted Silver = false
is_promoted Gold = false
is_promoted Bishop = false
is_promoted Rook = false
is_promoted King = false
is_promoted ProPawn = true
is_promoted ProLance = true
is_promoted ProKnight = true
is_promoted ProSilver = true
is_promoted Horse = true
is_promoted Dragon = true

-- the kind that a piece of this kind promotes to
abbrev pub promoted : Kind → Option Kind
promoted Pawn = Some ProPawn
promoted Lance = Some ProLance
promoted Knight = Some ProKnight
promoted Silver = Some ProSilver
promoted Gold = None
promoted Bishop = Some Horse
promoted Rook = Some Dragon
promoted King = None
promoted ProPawn = None
promoted ProLance = None
promoted ProKnight = None
promoted ProSilver = None
promoted Horse = None
promoted Dragon = None

-- the kind that it has in a hand
abbrev pub unpromoted : Kind → Kind
unpromoted Pawn = Pawn
unpromoted Lance = Lance
unpromoted Knight = Knight
unpromoted Silver = Silver
unpromoted Gold = Gold
unpromoted Bishop = Bishop
unpromoted Rook = Rook
unpromoted King = King
unpromoted ProPawn = Pawn
unpromoted ProLance = Lance
unpromoted ProKnight = Knight
unpromoted ProSilver = Silver
unpromoted Horse = Bishop
unpromoted Dragon = Rook

abbrev pub is_king : Kind → Bool
is_king King = true
is_king _ = false

-- a hand may hold each unpromoted kind but the king
abbrev pub is_hand_kind : Kind → Bool
is_hand_kind kind = not (is_promoted kind) && not (is_king kind)

abbrev pub same : Bool → Bool → Bool
same true b = b
same false true = false
same false false = true

abbrev pub same_kind : Kind → Kind → Bool
same_kind a b = (place_of a == place_of b) && same (is_promoted a) (is_promoted b)
