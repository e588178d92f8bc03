use Rattle.std.proofs.Common.{refl}
use Rattle.shogi_board.proofs.Same.{total-pieces, kinds-sorted}
use Rattle.shogi_board.proofs.laws.ordered_pieces.Goals as goal

pub returns : goal.returns
returns c = record { total = total-pieces; by_parts = λ p q. refl; sides = refl; kinds = kinds-sorted }
