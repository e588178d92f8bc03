use Rattle.csa_text.proofs.Moments.{moment_once}
use Rattle.csa_text.proofs.laws.moment_once.Goals as goal

pub returns : goal.returns
returns c = record { moment = moment_once }
