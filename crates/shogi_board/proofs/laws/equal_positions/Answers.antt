use Rattle.shogi_board.proofs.Same.{eq-same, placed-eq}
use Rattle.shogi_board.proofs.laws.equal_positions.Goals as goal

pub returns : goal.returns
returns c = record { same = eq-same; exact = placed-eq }
