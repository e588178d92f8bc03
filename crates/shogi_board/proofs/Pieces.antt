-- The tests of kinds and colours say what they are named for.
use Rattle.std.proofs.Common.{◌≡◌, true, Option, Some, refl, sym, ◌∙◌}
use Rattle.std.proofs.lemmas.Option.{same_Some}
use Rattle.shogi_board.specs.declared.color.Color.{Color}
use Rattle.shogi_board.specs.declared.color.Color.TheVariants.{Black, White}
use Rattle.shogi_board.specs.declared.kind.Kind.{Kind}
use Rattle.shogi_board.specs.declared.kind.Kind.TheVariants.{Pawn, King}
use Rattle.shogi_board.specs.declared.kind.Piece.{Piece}
use Rattle.shogi_board.specs.Cells.{Cells, at, piece}
use Rattle.shogi_board.specs.Pieces.{is_hand_kind, opponent, place_of, unpromoted}
use Rattle.shogi_board.specs.Reach.{Reach}
use Rattle.shogi_board.specs.Totals.{is_king_of}
use Rattle.shogi_board.specs.declared.square.Square.{Square}
use Rattle.shogi_board.proofs.Forms.{same_color-self}

-- a king of that side passes the test
pub is_king_of-king : (c : Color) (cell : Option Piece) → cell ≡ piece c King → is_king_of c cell ≡ true
is_king_of-king c cell e = rw (e, same_color-self) refl

-- the piece that reaches is the one that stands there
pub mover-is : (cells : Cells) (a b : Square) (p : Piece) → at cells a ≡ Some p → (r : Reach cells a b) → r.mover ≡ p
mover-is cells a b p h r = same_Some r.mover p (sym r.stands ∙ h)

-- a piece that is no king may be held
pub captured-held : (k : Kind) → (k ≡ King → ⊥) → is_hand_kind (unpromoted k) ≡ true
captured-held King h = absurd (h refl)
captured-held _ h = refl

pub unpromoted-place : (k : Kind) → place_of (unpromoted k) ≡ place_of k
unpromoted-place Pawn = refl
unpromoted-place _ = refl

pub opponent-twice : (c : Color) → opponent (opponent c) ≡ c
opponent-twice Black = refl
opponent-twice White = refl
