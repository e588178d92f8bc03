use Rattle.csa_text.proofs.Sayings.{same_saying}
use Rattle.csa_text.proofs.laws.spelt_once.Goals as goal

pub returns : goal.returns
returns c = record { saying = same_saying }
