use Rattle.shogi_board.proofs.Start.{even-full}
use Rattle.shogi_board.proofs.laws.even_is_full.Goals as goal

pub returns : goal.returns
returns c = record { full = even-full }
