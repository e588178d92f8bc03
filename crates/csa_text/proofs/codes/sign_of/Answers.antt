use Rattle.std.proofs.Common.{rules}
use Rattle.csa_text.proofs.codes.sign_of.Goals as goal

pub returns-in-Black : goal.returns-in-Black
returns-in-Black c = search rules

pub returns-in-White : goal.returns-in-White
returns-in-White c = search rules
