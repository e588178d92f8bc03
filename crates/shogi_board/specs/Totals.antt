-- How many pieces there are of each kind, and how many there may be.
use Rattle.std.specs.Prelude.{◌≡◌, ℕ, ◌+◌, ◌≤◌, ◌==◌, ◌&&◌, Bool, false, List, [], ◌∷◌, ◌++◌, Option, Some, None, length, map, count_by, slice_index, if◌then◌else◌}
use Rattle.shogi_board.specs.declared.color.Color.{Color}
use Rattle.shogi_board.specs.declared.kind.Kind.{Kind}
use Rattle.shogi_board.specs.declared.kind.Kind.TheVariants.{Pawn, Lance, Knight, Silver, Gold, Bishop, Rook, King, ProPawn, ProLance, ProKnight, ProSilver, Horse, Dragon}
use Rattle.shogi_board.specs.declared.kind.Piece.{Piece}
use Rattle.shogi_board.specs.Cells.{Cells}
use Rattle.shogi_board.specs.Material.{Material}
use Rattle.shogi_board.specs.Pieces.{place_of, is_hand_kind, same_color, is_king}

-- a bag: how many of each kind a hand holds, in the order of these kinds
abbrev pub hand_kinds : List Kind
hand_kinds = Pawn ∷ Lance ∷ Knight ∷ Silver ∷ Gold ∷ Bishop ∷ Rook ∷ []

abbrev pub no_pieces : List ℕ
no_pieces = 0 ∷ 0 ∷ 0 ∷ 0 ∷ 0 ∷ 0 ∷ 0 ∷ []

-- a board with empty hands
abbrev pub bare_board : Cells → Material
bare_board cells = record { board = cells; black = no_pieces; white = no_pieces }

-- how many of that kind a hand holds; kings and promoted pieces never
abbrev pub count_in : List ℕ → Kind → ℕ
count_in bag kind = if is_hand_kind kind then slice_index bag (place_of kind) else 0

-- the cell holds a piece of that kind, a promoted one counted as its unpromoted kind
abbrev pub is_of : Kind → Option Piece → Bool
is_of wanted None = false
is_of wanted (Some p) = place_of p.kind == place_of wanted

-- how many pieces there are of that kind, promoted or not, on the board and in both hands;
-- a king's place lies after the end of a bag, where none is counted
abbrev pub total : Material → Kind → ℕ
total m kind =
    count_by (is_of kind) m.board
    + slice_index m.black (place_of kind) + slice_index m.white (place_of kind)

-- for a private field of `Setup`: how many of each kind are on a board, by the kinds' places
abbrev pub board_counts : Cells → List ℕ
board_counts cells = map (λ kind. count_by (is_of kind) cells) (hand_kinds ++ King ∷ [])

-- how many there may be; of kings one a side
abbrev pub limit : Kind → ℕ
limit Pawn = 18
limit Lance = 4
limit Knight = 4
limit Silver = 4
limit Gold = 4
limit Bishop = 2
limit Rook = 2
limit King = 2
limit ProPawn = 18
limit ProLance = 4
limit ProKnight = 4
limit ProSilver = 4
limit Horse = 2
limit Dragon = 2

abbrev pub is_king_of : Color → Option Piece → Bool
is_king_of color None = false
is_king_of color (Some p) = same_color p.color color && is_king p.kind

-- how many kings that side has
abbrev pub kings_of : Cells → Color → ℕ
kings_of cells color = count_by (is_king_of color) cells

-- a whole board and two bags, no total passed, and at most one king a side
pub record IsWithinTotals (m : Material) : Type 0 where
  pub squares : length m.board ≡ 81
  pub black_kinds : length m.black ≡ 7
  pub white_kinds : length m.white ≡ 7
  pub totals : (kind : Kind) → total m kind ≤ limit kind
  pub kings : (color : Color) → kings_of m.board color ≤ 1
