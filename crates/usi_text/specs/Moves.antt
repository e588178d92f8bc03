-- USI moves.
use Rattle.std.specs.Prelude.{◌≡◌, ℕ, ◌⊎◌, true, List, ◌∷◌, ◌++◌, Some, codes}
use Rattle.shogi_board.specs.declared.kind.Piece.{Piece}
use Rattle.shogi_board.specs.Cells.{at}
use Rattle.shogi_board.specs.Pieces.{is_hand_kind, promoted}
use Rattle.shogi_board.specs.Placed.{Placed}
use Rattle.shogi_board.specs.declared.moves.Move.{Move}
use Rattle.shogi_board.specs.declared.moves.Move.TheVariants.{Walk, Put}
use Rattle.usi_text.specs.Letters.{square_text, letter}

-- the text is the move in that position. A walk: the square that the piece leaves and the square
-- that it goes to; the piece keeps its kind, or + follows and it promotes. A drop: the letter of
-- the kind, *, and the square.
abbrev pub UsiMove : Placed → List ℕ → Move → Type 0
UsiMove p text (Walk from to kind) =
    (mover : Piece) × (at p.material.board from ≡ Some mover)
    × (((text ≡ square_text from ++ square_text to) × (kind ≡ mover.kind))
    ⊎ ((text ≡ square_text from ++ square_text to ++ codes "+")
    × (promoted mover.kind ≡ Some kind)))
UsiMove p text (Put to kind) = (is_hand_kind kind ≡ true)
    × (text ≡ letter kind ∷ (codes "*" ++ square_text to))
