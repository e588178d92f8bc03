-- When two positions are the same: each square holds the same, both hands are the same, and the
-- same side is to move.
use Rattle.std.specs.Prelude.{Bool, true, false, ◌&&◌, nat_eq, Option, Some, None}
use Rattle.std.specs.Cmp.Lexicographic.{pointwise}
use Rattle.shogi_board.specs.declared.kind.Piece.{Piece}
use Rattle.shogi_board.specs.Pieces.{same_color, same_kind}
use Rattle.shogi_board.specs.Placed.{Placed}

-- both squares are empty, or hold a piece of one side and kind
abbrev pub same_cell : Option Piece → Option Piece → Bool
same_cell None None = true
same_cell (Some p) (Some q) = same_color p.color q.color && same_kind p.kind q.kind
same_cell None (Some q) = false
same_cell (Some p) None = false

abbrev pub same_position : Placed → Placed → Bool
same_position p q =
    pointwise same_cell p.material.board q.material.board
    && (pointwise nat_eq p.material.black q.material.black
    && (pointwise nat_eq p.material.white q.material.white && same_color p.side q.side))
