use Rattle.csa_cutting.proofs.WholeRuns.{next_whole}
use Rattle.csa_cutting.proofs.laws.next_whole.Goals as goal

pub returns : goal.returns
returns c = record { stated = next_whole }
