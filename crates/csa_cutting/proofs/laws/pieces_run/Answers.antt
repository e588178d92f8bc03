use Rattle.csa_cutting.proofs.WholeRuns.{closed_run, whole_run, run_refused}
use Rattle.csa_cutting.proofs.laws.pieces_run.Goals as goal

pub returns-clause-so_far : goal.returns-clause-so_far
returns-clause-so_far c = closed_run

pub returns-clause-finished : goal.returns-clause-finished
returns-clause-finished c = whole_run

pub returns-clause-refused : goal.returns-clause-refused
returns-clause-refused c = run_refused
