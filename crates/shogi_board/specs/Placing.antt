-- Placing pieces one after another, and why one cannot be placed.
use Rattle.std.specs.Prelude.{ℕ, List, [], ◌∷◌, Option, Some, None, Result, Ok, Err}
use Rattle.shogi_board.specs.declared.color.Color.{Color}
use Rattle.shogi_board.specs.declared.kind.Kind.{Kind}
use Rattle.shogi_board.specs.declared.kind.Piece.{Piece}
use Rattle.shogi_board.specs.declared.setup.SetupFault.{SetupFault}
use Rattle.shogi_board.specs.Layout.{Layout}
use Rattle.shogi_board.specs.Setup.{add_fault, rest_fault, put_fault, off_fault, with_at, added, rest_to}
pub use Rattle.shogi_board.specs.Setup.{board_alone}

-- a piece put on a square, one of that kind taken off it, one put into a hand, or all that remain;
-- squares by their place
pub data Placing : Type 0 where
  on : ℕ → Piece → Placing
  off : ℕ → Kind → Placing
  in_hand : Color → Kind → Placing
  rest : Color → Placing

-- why it cannot be placed
abbrev pub placing_fault : Layout → Placing → Option SetupFault
placing_fault s (on n p) = put_fault s n p
placing_fault s (off n of_kind) = off_fault s n of_kind
placing_fault s (in_hand color of_kind) = add_fault s of_kind
placing_fault s (rest color) = rest_fault s

-- with it placed
abbrev pub placed : Layout → Placing → Layout
placed s (on n p) = with_at s n (Some p)
placed s (off n of_kind) = with_at s n None
placed s (in_hand color of_kind) = added s color of_kind
placed s (rest color) = rest_to s color

abbrev pub unless : Option SetupFault → Result Layout SetupFault → Result Layout SetupFault
unless None next = next
unless (Some fault) next = Err fault

-- all of them, or why the first that cannot be placed cannot be
abbrev pub place_all : Layout → List Placing → Result Layout SetupFault
place_all s [] = Ok s
place_all s (p ∷ ps) = unless (placing_fault s p) (place_all (placed s p) ps)
