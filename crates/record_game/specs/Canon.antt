-- The canonical text of a game.
use Rattle.std.specs.Prelude.{ℕ, ◌+◌, ◌-◌, ◌&&◌, Bool, true, false, List, [], ◌∷◌, ◌++◌, map, replicate, Option, Some, None, slice_index_or, if◌then◌else◌}
use Rattle.std.specs.List.{flat_map}
use Rattle.shogi_board.specs.declared.color.Color.{Color}
use Rattle.shogi_board.specs.declared.color.Color.TheVariants.{Black, White}
use Rattle.shogi_board.specs.declared.kind.Kind.TheVariants.{Pawn, Lance, Knight, Silver, Gold, Bishop, Rook}
use Rattle.shogi_board.specs.declared.kind.Piece.{Piece}
use Rattle.shogi_board.specs.Cells.{Cells, even_cells}
use Rattle.shogi_board.specs.Pieces.{same_color, same_kind}
use Rattle.shogi_board.specs.Placed.{Placed}
use Rattle.shogi_board.specs.Totals.{count_in}
use Rattle.csa_text.specs.Moment.{moment_text}
use Rattle.csa_text.specs.declared.pair.Pair.{Pair}
use Rattle.csa_text.specs.declared.pair.Pair.TheVariants.{On, InHand}
use Rattle.csa_text.specs.Saying.{Saying, version, name, header, even, rank, pieces, turn}
use Rattle.csa_text.specs.Statements.{statement_of}
use Rattle.record_game.specs.Game.{Game, Entry, HeaderText, moment, plain}
use Rattle.record_game.specs.Says.{played_items}
use Rattle.record_game.specs.Squares.{square_at}

abbrev pub name_items : Color → Option (List ℕ) → List Saying
name_items color None = []
name_items color (Some text) = name color text ∷ []

abbrev pub value_text : HeaderText → List ℕ
value_text (moment m) = moment_text m
value_text (plain text) = text

abbrev pub header_item : Entry → Saying
header_item e = header e.key (value_text e.text)

-- the cell is empty or holds the same piece as the other
abbrev pub stands_in : Option Piece → Option Piece → Bool
stands_in None other = true
stands_in (Some p) None = false
stands_in (Some p) (Some q) = same_color p.color q.color && same_kind p.kind q.kind

-- every piece of the first board is on the other too
abbrev pub is_part_of : Cells → Cells → Bool
is_part_of [] others = true
is_part_of (c ∷ cs) [] = false
is_part_of (c ∷ cs) (d ∷ ds) = stands_in c d && is_part_of cs ds

-- the pieces of the first board that the other lacks, from this place on, in the order of the
-- squares
abbrev pub missing : ℕ → Cells → Cells → List Pair
missing n [] others = []
missing n (c ∷ cs) [] = []
missing n (None ∷ cs) (d ∷ ds) = missing (n + 1) cs ds
missing n (Some p ∷ cs) (None ∷ ds) = On (square_at n) p.kind ∷ missing (n + 1) cs ds
missing n (Some p ∷ cs) (Some q ∷ ds) = missing (n + 1) cs ds

-- the cells of a rank, from file 9 to file 1
abbrev pub rank_cells : Cells → ℕ → List (Option Piece)
rank_cells cells number =
    map (λ before. slice_index_or cells (before + (number - 1)) None)
    (72 ∷ 63 ∷ 54 ∷ 45 ∷ 36 ∷ 27 ∷ 18 ∷ 9 ∷ 0 ∷ [])

abbrev pub rank_items : Cells → List Saying
rank_items cells =
    map (λ number. rank number (rank_cells cells number)) (1 ∷ 2 ∷ 3 ∷ 4 ∷ 5 ∷ 6 ∷ 7 ∷ 8 ∷ 9 ∷ [])

-- a pair for each piece of a hand, rooks first
abbrev pub hand_pairs : List ℕ → List Pair
hand_pairs bag =
    flat_map (λ kind. replicate (count_in bag kind) (InHand kind))
    (Rook ∷ Bishop ∷ Gold ∷ Silver ∷ Knight ∷ Lance ∷ Pawn ∷ [])

abbrev pub pairs_items : Color → List Pair → List Saying
pairs_items color [] = []
pairs_items color (p ∷ ps) = pieces color (p ∷ ps) ∷ []

abbrev pub hand_items : Color → List ℕ → List Saying
hand_items color bag = pairs_items color (hand_pairs bag)

abbrev pub no_items : List Saying → Bool
no_items [] = true
no_items (s ∷ ss) = false

-- both hands are empty, and every piece of the board is where the even board has the same piece
abbrev pub is_from_even : Placed → Bool
is_from_even p =
    no_items (hand_items Black p.material.black ++ hand_items White p.material.white)
    && is_part_of p.material.board even_cells

-- `PI` with the missing pieces of the even board; or else the ranks, and the hands that are not
-- empty
abbrev pub start_items : Placed → List Saying
start_items p =
    if is_from_even p then even (missing 0 even_cells p.material.board) ∷ []
    else rank_items p.material.board
    ++ (hand_items Black p.material.black ++ hand_items White p.material.white)

-- the version, the names, the headers, the start, the side to move, the moves with their times, and
-- the ending
abbrev pub canon_items : Game → List Saying
canon_items g =
    version ∷ (name_items Black g.black ++ (name_items White g.white ++ (map header_item g.headers
    ++ (start_items g.start ++ turn g.start.side ∷ played_items g))))

-- an item's line, and LF
abbrev pub ended_line : Saying → List ℕ
ended_line s = statement_of s ++ 10 ∷ []

abbrev pub canon : Game → List ℕ
canon g = flat_map ended_line (canon_items g)
