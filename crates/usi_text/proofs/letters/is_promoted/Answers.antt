use Rattle.std.proofs.Common.{rules}
use Rattle.usi_text.proofs.letters.is_promoted.Goals as goal

pub returns-in-ProPawn : goal.returns-in-ProPawn
returns-in-ProPawn c = search rules

pub returns-in_default : goal.returns-in_default
returns-in_default c = search rules
