use Rattle.shogi_board.proofs.Facts.{horse-reach}
use Rattle.shogi_board.proofs.laws.horse_reaches.Goals as goal

pub returns : goal.returns
returns c = record { reach = horse-reach }
