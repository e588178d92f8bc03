use Rattle.shogi_board.proofs.Turned.{turned-reach}
use Rattle.shogi_board.proofs.laws.reach_turned.Goals as goal

pub returns : goal.returns
returns c = record { same = turned-reach }
