use Rattle.csa_text.proofs.SameMoment.{moment-eq}
use Rattle.csa_text.proofs.laws.equal_moments.Goals as goal

pub returns : goal.returns
returns c = record { equal = moment-eq }
