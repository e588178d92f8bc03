use Rattle.std.proofs.Common.{refl}
use Rattle.shogi_board.proofs.laws.even_turned.Goals as goal

pub returns : goal.returns
returns c = record { same = refl }
