use Rattle.shogi_board.proofs.Facts.{gold-reach}
use Rattle.shogi_board.proofs.laws.gold_reaches_six.Goals as goal

pub returns : goal.returns
returns c = record { six = gold-reach }
