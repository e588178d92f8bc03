use Rattle.usi_text.proofs.StartFaults.{start_faults}
use Rattle.usi_text.proofs.laws.start_faults.Goals as goal

pub returns : goal.returns
returns c = record { three = start_faults }
