-- The position after a move of the side to move.
use Rattle.std.specs.Prelude.{ℕ, List, Option, Some, None, slice_set}
use Rattle.shogi_board.specs.declared.kind.Piece.{Piece}
use Rattle.shogi_board.specs.declared.moves.Move.{Move}
use Rattle.shogi_board.specs.declared.moves.Move.TheVariants.{Walk, Put}
use Rattle.shogi_board.specs.Cells.{Cells, at, piece}
use Rattle.shogi_board.specs.Material.{bag_of, with_bag}
use Rattle.shogi_board.specs.Pieces.{opponent, unpromoted}
use Rattle.shogi_board.specs.Placed.{Placed}
use Rattle.shogi_board.specs.Setup.{one_more, one_less}
use Rattle.shogi_board.specs.Squares.{place}

-- a bag with what stood on a square, unpromoted
abbrev pub with_captured : List ℕ → Option Piece → List ℕ
with_captured bag None = bag
with_captured bag (Some captured) = one_more bag (unpromoted captured.kind)

-- the piece leaves its square and stands on the other, of the kind that the move names
abbrev pub board_after : Placed → Move → Cells
board_after p (Walk from to kind) =
    slice_set (slice_set p.material.board (place from) None) (place to) (piece p.side kind)
board_after p (Put to kind) = slice_set p.material.board (place to) (piece p.side kind)

-- the mover's bag
abbrev pub bag_after : Placed → Move → List ℕ
bag_after p (Walk from to _) =
    with_captured (bag_of p.material p.side) (at p.material.board to)
bag_after p (Put to kind) = one_less (bag_of p.material p.side) kind

-- the other side is to move
abbrev pub after : Placed → Move → Placed
after p m = record {
  material = record (with_bag p.material p.side (bag_after p m)) { board = board_after p m };
  side = opponent p.side;
}
