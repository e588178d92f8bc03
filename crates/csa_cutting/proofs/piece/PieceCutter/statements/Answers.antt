use Rattle.std.proofs.Common.{rules}
use Rattle.csa_cutting.proofs.piece.PieceCutter.statements.Goals as goal

pub returns-clause-count : goal.returns-clause-count
returns-clause-count c = search rules
