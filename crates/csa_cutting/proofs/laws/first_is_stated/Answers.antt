use Rattle.csa_cutting.proofs.Spoken.{stated_first}
use Rattle.csa_cutting.proofs.laws.first_is_stated.Goals as goal

pub returns : goal.returns
returns c = record { stated = stated_first }
