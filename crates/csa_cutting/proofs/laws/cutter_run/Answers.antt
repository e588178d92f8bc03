use Rattle.csa_cutting.proofs.WholeRuns.{whole_cut, cut_refused}
use Rattle.csa_cutting.proofs.laws.cutter_run.Goals as goal

pub returns-clause-finished : goal.returns-clause-finished
returns-clause-finished c = whole_cut

pub returns-clause-refused : goal.returns-clause-refused
returns-clause-refused c = cut_refused
