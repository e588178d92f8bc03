use Rattle.csa_cutting.proofs.WholeRuns.{all_short}
use Rattle.csa_cutting.proofs.laws.never_both.Goals as goal

pub returns : goal.returns
returns c = record { never = all_short }
