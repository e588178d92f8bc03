-- How the pieces of a text are set up, one after another, and which refusal comes first.
use Rattle.std.specs.Prelude.{◌≡◌, ℕ, ◌+◌, ◌-◌, ◌*◌, ◌/◌, ◌%◌, List, [], ◌∷◌, ◌++◌, Option, Some, None, Result, Ok, Err, map}
use Rattle.std.specs.List.{flat_map}
use Rattle.shogi_board.specs.declared.color.Color.{Color}
use Rattle.shogi_board.specs.declared.kind.Piece.{Piece}
use Rattle.shogi_board.specs.declared.setup.SetupFault.{SetupFault}
use Rattle.shogi_board.specs.declared.setup.SetupFault.TheVariants.{OpponentInCheck}
use Rattle.shogi_board.specs.Layout.{Layout}
use Rattle.shogi_board.specs.Pieces.{opponent}
use Rattle.shogi_board.specs.Placed.{Placed}
use Rattle.shogi_board.specs.Placing.{Placing, on, in_hand, place_all}
use Rattle.shogi_board.specs.Reach.{InCheck}
use Rattle.shogi_board.specs.Setup.{empty_layout, position_of}
use Rattle.usi_text.specs.Hands.{Pile, pile_pieces}

-- the place of the nth square of a board's text in the order of squares: rank by rank, each from
-- file 9 to file 1
abbrev pub board_place : ℕ → ℕ
board_place n = (8 - n % 9) * 9 + n / 9

-- the pieces of the cells are on their squares, from the nth square of the text on
abbrev pub cell_placings : ℕ → List (Option Piece) → List Placing
cell_placings n [] = []
cell_placings n (None ∷ cells) = cell_placings (n + 1) cells
cell_placings n (Some p ∷ cells) = on (board_place n) p ∷ cell_placings (n + 1) cells

abbrev pub hand_placing : Piece → Placing
hand_placing p = in_hand p.color p.kind

abbrev pub hand_placings : List Pile → List Placing
hand_placings piles = map hand_placing (flat_map pile_pieces piles)

-- the pieces of the board, then those of the hands, are placed on an empty board
abbrev pub set_up : List (Option Piece) → List Pile → Result Layout SetupFault
set_up cells piles = place_all empty_layout (cell_placings 0 cells ++ hand_placings piles)

-- last comes the side to move: the other side's king may not be attacked
abbrev pub Finishes : Result Layout SetupFault → Color → Result Placed SetupFault → Type 0
Finishes (Err fault) side answer = answer ≡ Err fault
Finishes (Ok s) side (Ok p) = (InCheck s.material.board (opponent side) → ⊥)
    × (p ≡ position_of s side)
Finishes (Ok s) side (Err fault) = InCheck s.material.board (opponent side)
    × (fault ≡ OpponentInCheck)
