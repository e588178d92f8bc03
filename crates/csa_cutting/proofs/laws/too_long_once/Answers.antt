use Rattle.csa_cutting.proofs.FirstLong.{too_long_once}
use Rattle.csa_cutting.proofs.laws.too_long_once.Goals as goal

pub returns : goal.returns
returns c = record { first = too_long_once }
