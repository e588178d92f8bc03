use Rattle.std.proofs.Common.{refl}
use Rattle.shogi_board.proofs.Ordered.{cells-cmp}
use Rattle.shogi_board.proofs.Same.{exact-positions, total-positions}
use Rattle.shogi_board.proofs.laws.ordered_positions.Goals as goal

pub returns : goal.returns
returns c = record {
  total = total-positions;
  exact = exact-positions;
  by_parts = λ p q. rw (cells-cmp p.material.board q.material.board) refl;
}
