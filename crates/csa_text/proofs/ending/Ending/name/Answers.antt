use Rattle.std.proofs.Common.{rules}
use Rattle.csa_text.proofs.ending.Ending.name.Goals as goal

pub returns-in-BlackIllegalAction : goal.returns-in-BlackIllegalAction
returns-in-BlackIllegalAction c = search rules

pub returns-in-WhiteIllegalAction : goal.returns-in-WhiteIllegalAction
returns-in-WhiteIllegalAction c = search rules
