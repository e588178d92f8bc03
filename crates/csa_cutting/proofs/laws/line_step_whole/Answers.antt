use Rattle.csa_cutting.proofs.LineRuns.{line_step_whole}
use Rattle.csa_cutting.proofs.laws.line_step_whole.Goals as goal

pub returns : goal.returns
returns c = record { stated = line_step_whole }
