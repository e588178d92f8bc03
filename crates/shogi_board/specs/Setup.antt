-- A position that is being set up, and when a call on it is refused.
use Rattle.std.specs.Prelude.{ℕ, ◌+◌, ◌-◌, ◌&&◌, Bool, true, false, not, nat_le, nat_lt, nat_eq, List, [], ◌∷◌, Option, Some, None, is_some, map, slice_set, slice_index_or, if◌then◌else◌}
use Rattle.shogi_board.specs.declared.color.Color.{Color}
use Rattle.shogi_board.specs.declared.kind.Kind.{Kind}
use Rattle.shogi_board.specs.declared.kind.Piece.{Piece}
use Rattle.shogi_board.specs.declared.setup.SetupFault.{SetupFault}
use Rattle.shogi_board.specs.declared.setup.SetupFault.TheVariants.{SquareTaken, TooMany, SecondKing, NotForHand, NotThere, AfterRest}
use Rattle.shogi_board.specs.declared.square.Square.{Square}
use Rattle.shogi_board.specs.Cells.{Cells, piece, no_cells}
use Rattle.shogi_board.specs.Layout.{Layout}
use Rattle.shogi_board.specs.Material.{bag_of, with_bag}
use Rattle.shogi_board.specs.Pieces.{is_hand_kind, is_king, same_kind, place_of}
use Rattle.shogi_board.specs.Placed.{Placed}
use Rattle.shogi_board.specs.Squares.{place}
use Rattle.shogi_board.specs.Totals.{total, limit, kings_of, count_in, hand_kinds, bare_board}

-- a board with empty hands
abbrev pub board_alone : Cells → Layout
board_alone cells = record { material = bare_board cells; rest_given = false }

abbrev pub empty_layout : Layout
empty_layout = board_alone no_cells

-- the board and both hands of a position, the rest not given
abbrev pub layout_of : Placed → Layout
layout_of p = record { material = p.material; rest_given = false }

-- with a side to move
abbrev pub position_of : Layout → Color → Placed
position_of s side = record { material = s.material; side = side }

-- the first fault of a list whose condition holds
abbrev pub first_fault : {Fault : Type 0} → List (Fault × Bool) → Option Fault
first_fault [] = None
first_fault (f ∷ fs) = if f.1 then Some f.0 else first_fault fs

-- no more of that kind may be added
abbrev pub is_full : Layout → Kind → Bool
is_full s kind = nat_le (limit kind) (total s.material kind)

-- the cell holds a piece of that kind
abbrev pub holds : Kind → Option Piece → Bool
holds wanted None = false
holds wanted (Some p) = same_kind p.kind wanted

-- why a piece may not be put on the square of that place
abbrev pub put_fault : Layout → ℕ → Piece → Option SetupFault
put_fault s n p =
    first_fault (
    (AfterRest, s.rest_given)
    ∷ (SquareTaken, is_some (slice_index_or s.material.board n None))
    ∷ (SecondKing, is_king p.kind && nat_lt 0 (kings_of s.material.board p.color))
    ∷ (TooMany, is_full s p.kind)
    ∷ [])

-- with that on the square of that place
abbrev pub with_at : Layout → ℕ → Option Piece → Layout
with_at s n cell =
    record s { material = record s.material { board = slice_set s.material.board n cell } }

-- why a piece may not be placed
abbrev pub place_fault : Layout → Color → Square → Kind → Option SetupFault
place_fault s color square kind = put_fault s (place square) (record { color = color; kind = kind })

abbrev pub with_piece : Layout → Color → Square → Kind → Layout
with_piece s color square kind = with_at s (place square) (piece color kind)

-- why a piece may not be added to a hand
abbrev pub add_fault : Layout → Kind → Option SetupFault
add_fault s kind =
    first_fault ((AfterRest, s.rest_given) ∷ (NotForHand, not (is_hand_kind kind))
    ∷ (TooMany, is_full s kind) ∷ [])

-- one more of a kind in a bag
abbrev pub one_more : List ℕ → Kind → List ℕ
one_more bag kind = slice_set bag (place_of kind) (count_in bag kind + 1)

abbrev pub one_less : List ℕ → Kind → List ℕ
one_less bag kind = slice_set bag (place_of kind) (count_in bag kind - 1)

-- with one more of a kind in a hand
abbrev pub added : Layout → Color → Kind → Layout
added s color kind =
    record s { material = with_bag s.material color (one_more (bag_of s.material color) kind) }

-- why a piece may not be taken off the square of that place
abbrev pub off_fault : Layout → ℕ → Kind → Option SetupFault
off_fault s n kind =
    first_fault ((AfterRest, s.rest_given)
    ∷ (NotThere, not (holds kind (slice_index_or s.material.board n None))) ∷ [])

-- why a piece may not be taken off the board
abbrev pub take_off_fault : Layout → Square → Kind → Option SetupFault
take_off_fault s square kind = off_fault s (place square) kind

abbrev pub taken_off : Layout → Square → Layout
taken_off s square = with_at s (place square) None

-- why a piece may not be taken out of a hand
abbrev pub take_hand_fault : Layout → Color → Kind → Option SetupFault
take_hand_fault s color kind =
    first_fault ((AfterRest, s.rest_given)
    ∷ (NotThere, nat_eq (count_in (bag_of s.material color) kind) 0) ∷ [])

-- with one less of a kind in a hand
abbrev pub taken : Layout → Color → Kind → Layout
taken s color kind =
    record s { material = with_bag s.material color (one_less (bag_of s.material color) kind) }

abbrev pub rest_fault : Layout → Option SetupFault
rest_fault s = first_fault ((AfterRest, s.rest_given) ∷ [])

-- how many of a kind a bag has with all that remain of the total
abbrev pub count_with_rest : Layout → List ℕ → Kind → ℕ
count_with_rest s bag kind = count_in bag kind + (limit kind - total s.material kind)

abbrev pub with_rest : Layout → List ℕ → List ℕ
with_rest s bag = map (count_with_rest s bag) hand_kinds

-- that side's hand has all that remains of the totals, kings not
abbrev pub rest_to : Layout → Color → Layout
rest_to s color =
    record {
      material = with_bag s.material color (with_rest s (bag_of s.material color));
      rest_given = true;
    }
