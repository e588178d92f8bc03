use Rattle.std.proofs.Common.{refl}
use Rattle.shogi_board.proofs.even.even_cells.Goals as goal

pub returns : goal.returns
returns c = refl
