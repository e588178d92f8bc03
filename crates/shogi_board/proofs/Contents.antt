-- Codes and the pieces that they stand for.
use Rattle.std.proofs.Common.{◌≡◌, Option, Some, None, refl}
use Rattle.shogi_board.specs.Cells.{piece}
use Rattle.shogi_board.specs.Contents.{code_of, piece_of}
use Rattle.shogi_board.specs.declared.color.Color.{Color}
use Rattle.shogi_board.specs.declared.color.Color.TheVariants.{Black, White}
use Rattle.shogi_board.specs.declared.kind.Kind.{Kind}
use Rattle.shogi_board.specs.declared.kind.Kind.TheVariants.{Pawn}
use Rattle.shogi_board.specs.declared.kind.Piece.{Piece}

piece-back : (color : Color) (kind : Kind) → piece_of (code_of (piece color kind)) ≡ piece color kind
piece-back Black Pawn = refl
piece-back White Pawn = refl
piece-back _ _ = refl

pub content-back : (p : Option Piece) → piece_of (code_of p) ≡ p
content-back None = refl
content-back (Some p) = piece-back p.color p.kind
