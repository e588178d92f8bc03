-- What position statements place, piece by piece.
use Rattle.std.specs.Prelude.{ℕ, ◌+◌, ◌-◌, ◌*◌, List, [], ◌∷◌, Option, Some, None, map}
use Rattle.std.specs.List.{flat_map}
use Rattle.shogi_board.specs.declared.color.Color.{Color}
use Rattle.shogi_board.specs.declared.kind.Piece.{Piece}
use Rattle.shogi_board.specs.Placing.{Placing, on, off, in_hand, rest}
use Rattle.shogi_board.specs.Squares.{place}
use Rattle.csa_text.specs.declared.pair.Pair.{Pair}
use Rattle.csa_text.specs.declared.pair.Pair.TheVariants.{On, InHand, Rest}
use Rattle.csa_text.specs.Saying.{Saying, version, name, header, even, rank, pieces, turn, walked, time, ending}

-- a pair after `P+` or `P-`
abbrev pub pair_placing : Color → Pair → Placing
pair_placing color (On square of_kind) =
    on (place square) (record { color = color; kind = of_kind })
pair_placing color (InHand of_kind) = in_hand color of_kind
pair_placing color Rest = rest color

-- a pair after `PI`: bytes spell only pairs with a square there, so the other two never occur
abbrev pub taken_off : Pair → List Placing
taken_off (On square of_kind) = off (place square) of_kind ∷ []
taken_off (InHand of_kind) = []
taken_off Rest = []

-- the cells of a rank, from this file down to file 1
abbrev pub cells_placings : ℕ → ℕ → List (Option Piece) → List Placing
cells_placings file number [] = []
cells_placings file number (None ∷ cells) = cells_placings (file - 1) number cells
cells_placings file number (Some p ∷ cells) = on ((file - 1) * 9 + (number - 1)) p
    ∷ cells_placings (file - 1) number cells

abbrev pub placings_of : Saying → List Placing
placings_of version = []
placings_of (name color text) = []
placings_of (header key text) = []
placings_of (even pairs) = flat_map taken_off pairs
placings_of (rank number cells) = cells_placings 9 number cells
placings_of (pieces color pairs) = map (pair_placing color) pairs
placings_of (turn color) = []
placings_of (walked color m) = []
placings_of (time t) = []
placings_of (ending e) = []

abbrev pub placings : List Saying → List Placing
placings sayings = flat_map placings_of sayings
