use Rattle.std.proofs.Common.{rules}
use Rattle.csa_cutting.proofs.piece.PieceCutter.new.Goals as goal

pub returns : goal.returns
returns c = search rules
