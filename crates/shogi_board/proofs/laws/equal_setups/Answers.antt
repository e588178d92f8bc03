use Rattle.shogi_board.proofs.Same.{layout-eq}
use Rattle.shogi_board.proofs.laws.equal_setups.Goals as goal

pub returns : goal.returns
returns c = record { exact = layout-eq }
