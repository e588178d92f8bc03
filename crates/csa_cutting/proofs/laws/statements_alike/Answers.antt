use Rattle.csa_cutting.proofs.LineRuns.{stated_alike}
use Rattle.csa_cutting.proofs.laws.statements_alike.Goals as goal

pub returns : goal.returns
returns c = record { alike = stated_alike }
