use Rattle.std.proofs.Common.{rules}
use Rattle.csa_cutting.proofs.cutter.Cutter.new.Goals as goal

pub returns-clause-start : goal.returns-clause-start
returns-clause-start c = search rules
