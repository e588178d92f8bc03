-- The start that position statements give: the union of what they place. Their order does not
-- matter, except that `PI` comes first and the remaining pieces come last.
use Rattle.std.specs.Prelude.{◌≡◌, ℕ, ◌<◌, ◌==◌, ◌&&◌, Bool, true, false, List, [], ◌∷◌, ◌++◌, length, map, filter, Option, Some, None, slice_index_or, if◌then◌else◌}
use Rattle.std.specs.List.{AllByRecursion, filter_map}
use Rattle.std.specs.Option.{option_to_list}
use Rattle.shogi_board.specs.declared.color.Color.{Color}
use Rattle.shogi_board.specs.declared.color.Color.TheVariants.{Black, White}
use Rattle.shogi_board.specs.declared.kind.Kind.{Kind}
use Rattle.shogi_board.specs.declared.kind.Piece.{Piece}
use Rattle.shogi_board.specs.Cells.{Cells, even_cells, no_cells}
use Rattle.shogi_board.specs.Layout.{Layout}
use Rattle.shogi_board.specs.Pieces as pieces
use Rattle.shogi_board.specs.Pieces.{same_color, same_kind}
use Rattle.shogi_board.specs.Placed.{Placed}
use Rattle.shogi_board.specs.Setup.{holds, rest_to, position_of}
use Rattle.shogi_board.specs.Totals.{hand_kinds}
use Rattle.csa_text.specs.Saying.{Saying}
use Rattle.record_game.specs.Items.{is_even}
use Rattle.shogi_board.specs.Placing.{Placing, on, off, in_hand, rest}
use Rattle.record_game.specs.Placings.{placings}

-- the piece that is put on this square
abbrev pub put_on : ℕ → Placing → Option Piece
put_on n (on m p) = if m == n then Some p else None
put_on n (off m of_kind) = None
put_on n (in_hand color of_kind) = None
put_on n (rest color) = None

-- the kind that is taken off this square
abbrev pub off_at : ℕ → Placing → Option Kind
off_at n (on m p) = None
off_at n (off m of_kind) = if m == n then Some of_kind else None
off_at n (in_hand color of_kind) = None
off_at n (rest color) = None

-- a piece of that kind, put into that side's hand
abbrev pub is_held : Color → Kind → Placing → Bool
is_held color of_kind (on m p) = false
is_held color of_kind (off m other) = false
is_held color of_kind (in_hand side other) = same_color side color && same_kind other of_kind
is_held color of_kind (rest side) = false

-- the side whose hand is given all remaining pieces
abbrev pub rest_given : Placing → Option Color
rest_given (on m p) = None
rest_given (off m of_kind) = None
rest_given (in_hand color of_kind) = None
rest_given (rest color) = Some color

-- a hand may hold only the seven kinds
abbrev pub MayBeHeld : Placing → Type 0
MayBeHeld (on m p) = Unit {0}
MayBeHeld (off m of_kind) = Unit {0}
MayBeHeld (in_hand color of_kind) = pieces.is_hand_kind of_kind ≡ true
MayBeHeld (rest color) = Unit {0}

-- all remaining pieces are given last, and only once
abbrev pub RestIsLast : List Placing → Type 0
RestIsLast [] = Unit {0}
RestIsLast (on m p ∷ ps) = RestIsLast ps
RestIsLast (off m of_kind ∷ ps) = RestIsLast ps
RestIsLast (in_hand color of_kind ∷ ps) = RestIsLast ps
RestIsLast (rest color ∷ ps) = ps ≡ []

-- at most one kind is taken off a cell, and the cell holds it
abbrev pub MayTakeOff : Option Piece → List Kind → Type 0
MayTakeOff cell [] = Unit {0}
MayTakeOff cell (of_kind ∷ []) = holds of_kind cell ≡ true
MayTakeOff cell (of_kind ∷ other ∷ kinds) = ⊥

-- what is left on a cell from which these kinds are taken off
abbrev pub left_on : Option Piece → List Kind → List Piece
left_on cell [] = option_to_list cell
left_on cell (of_kind ∷ kinds) = []

-- what is on a square: what is left of the first board there, and what is put there
abbrev pub on_square : Cells → List Placing → ℕ → List Piece
on_square first ps n = left_on (slice_index_or first n None) (filter_map (off_at n) ps)
    ++ filter_map (put_on n) ps

-- how many of each kind are put into that side's hand
abbrev pub bag_given : Color → List Placing → List ℕ
bag_given color ps = map (λ k. length (filter (is_held color k) ps)) hand_kinds

-- what is placed on the first board makes this board and these hands; no two pieces share a square
pub record IsUnion (first : Cells) (ps : List Placing) (s : Layout) : Type 0 where
  pub squares : length s.material.board ≡ 81
  pub cells : (n : ℕ) → n < 81
      → on_square first ps n ≡ option_to_list (slice_index_or s.material.board n None)
  pub taken : (n : ℕ) → MayTakeOff (slice_index_or first n None) (filter_map (off_at n) ps)
  pub held : AllByRecursion MayBeHeld ps
  pub black : s.material.black ≡ bag_given Black ps
  pub white : s.material.white ≡ bag_given White ps
  pub no_rest : s.rest_given ≡ false
  pub rest_last : RestIsLast ps

-- with all remaining pieces in the hand of the side that is given them
abbrev pub with_rest_given : List Color → Layout → Layout
with_rest_given [] s = s
with_rest_given (color ∷ colors) s = rest_to s color

-- the even board if there is no position statement or `PI` comes first, else the empty one
abbrev pub first_board : List Saying → Cells
first_board [] = even_cells
first_board (s ∷ ss) = if is_even s then even_cells else no_cells

-- these position statements give that start
pub record GiveStart (ss : List Saying) (start : Placed) : Type 0 where
  pub layout : Layout
  pub union : IsUnion (first_board ss) (placings ss) layout
  pub start_is : start
      ≡ position_of (with_rest_given (filter_map rest_given (placings ss)) layout) start.side
