-- The SFEN that is written for a position.
use Rattle.std.specs.Prelude.{ℕ, zero, suc, ◌+◌, ◌-◌, ◌*◌, ◌==◌, List, [], ◌∷◌, ◌++◌, Option, Some, None, slice_index_or, codes, if◌then◌else◌}
use Rattle.std.specs.List.{flat_map}
use Rattle.shogi_board.specs.declared.color.Color.{Color}
use Rattle.shogi_board.specs.declared.color.Color.TheVariants.{Black, White}
use Rattle.shogi_board.specs.declared.kind.Kind.{Kind}
use Rattle.shogi_board.specs.declared.kind.Kind.TheVariants.{Pawn, Lance, Knight, Silver, Gold, Bishop, Rook}
use Rattle.shogi_board.specs.declared.kind.Piece.{Piece}
use Rattle.shogi_board.specs.Placed.{Placed}
use Rattle.shogi_board.specs.Totals.{count_in}
use Rattle.usi_text.specs.Boards.{Part, empty_squares, one_piece, part_text}
use Rattle.usi_text.specs.Hands.{Pile, pile_text}
use Rattle.usi_text.specs.Sfen.{side_text}

-- what is on a file and rank
abbrev pub cell : List (Option Piece) → ℕ → ℕ → Option Piece
cell board file rank = slice_index_or board ((file - 1) * 9 + (rank - 1)) None

-- the cells of a rank, from that file down to file 1
abbrev pub cells_from : List (Option Piece) → ℕ → ℕ → List (Option Piece)
cells_from board rank zero = []
cells_from board rank (suc n) = cell board (suc n) rank ∷ cells_from board rank n

-- one more empty square in front: it joins a count that comes first, or is a count of its own
abbrev pub with_empty : List Part → List Part
with_empty (empty_squares n ∷ parts) = empty_squares (suc n) ∷ parts
with_empty (one_piece p ∷ parts) = empty_squares 1 ∷ one_piece p ∷ parts
with_empty [] = empty_squares 1 ∷ []

-- the parts that are written for cells: each piece is one, and each whole run of empty squares is
-- one
abbrev pub parts_of : List (Option Piece) → List Part
parts_of [] = []
parts_of (None ∷ cells) = with_empty (parts_of cells)
parts_of (Some p ∷ cells) = one_piece p ∷ parts_of cells

-- the parts of a rank, one after another
abbrev pub rank_text : List (Option Piece) → ℕ → List ℕ
rank_text board rank = flat_map part_text (parts_of (cells_from board rank 9))

-- so many ranks from one on, a slash before each
abbrev pub ranks_text : List (Option Piece) → ℕ → ℕ → List ℕ
ranks_text board rank zero = []
ranks_text board rank (suc n) = codes "/" ++ (rank_text board rank ++ ranks_text board (rank + 1) n)

abbrev pub board_text : List (Option Piece) → List ℕ
board_text board = rank_text board 1 ++ ranks_text board 2 8

-- a count of 1 is not written
abbrev pub written_count : ℕ → Option ℕ
written_count n = if n == 1 then None else Some n

-- so many pieces of a hand; none is not written
abbrev pub pile_of : Piece → ℕ → List Pile
pile_of piece n = if n == 0 then [] else record { count = written_count n; piece = piece } ∷ []

-- a hand's pieces of one kind
abbrev pub piles_of : Color → List ℕ → Kind → List Pile
piles_of color bag kind = pile_of (record { color = color; kind = kind }) (count_in bag kind)

abbrev pub hand_order : List Kind
hand_order = Rook ∷ Bishop ∷ Gold ∷ Silver ∷ Knight ∷ Lance ∷ Pawn ∷ []

abbrev pub hand_piles : Color → List ℕ → List Pile
hand_piles color bag = flat_map (piles_of color bag) hand_order

-- black's hand first
abbrev pub both_piles : Placed → List Pile
both_piles p = hand_piles Black p.material.black ++ hand_piles White p.material.white

abbrev pub hands_text : List Pile → List ℕ
hands_text [] = codes "-"
hands_text (pile ∷ piles) = flat_map pile_text (pile ∷ piles)

-- board, side, hands and the number 1, with spaces between
abbrev pub sfen_text : Placed → List ℕ
sfen_text p =
    board_text p.material.board
    ++ (codes " "
    ++ (side_text p.side ++ (codes " " ++ (hands_text (both_piles p) ++ codes " 1"))))
