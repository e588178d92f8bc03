use Rattle.std.proofs.Common.{rules}
use Rattle.csa_cutting.proofs.line.LineCutter.new.Goals as goal

pub returns-clause-failed : goal.returns-clause-failed
returns-clause-failed c = search rules
