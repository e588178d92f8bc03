use Rattle.std.proofs.Common.{rules}
use Rattle.csa_text.proofs.item.read_version.Goals as goal

pub returns-in_default : goal.returns-in_default
returns-in_default c = search rules
