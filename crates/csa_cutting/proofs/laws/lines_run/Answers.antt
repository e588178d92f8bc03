use Rattle.csa_cutting.proofs.LineRuns.{line_run, line_run_long, line_run_finished}
use Rattle.csa_cutting.proofs.laws.lines_run.Goals as goal

pub returns-clause-lines : goal.returns-clause-lines
returns-clause-lines c = λ steps old new empty r. (line_run steps old new empty r).0

pub returns-clause-short : goal.returns-clause-short
returns-clause-short c = λ steps old new empty r. (line_run steps old new empty r).1

pub returns-clause-long : goal.returns-clause-long
returns-clause-long c = line_run_long

pub returns-clause-finished : goal.returns-clause-finished
returns-clause-finished c = line_run_finished
