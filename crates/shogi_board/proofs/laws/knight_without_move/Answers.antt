use Rattle.shogi_board.proofs.Facts.{knight-reach}
use Rattle.shogi_board.proofs.laws.knight_without_move.Goals as goal

pub returns : goal.returns
returns c = record { none = knight-reach }
