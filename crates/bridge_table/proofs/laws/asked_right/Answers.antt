use Rattle.bridge_table.proofs.SentRight.{asked_right}
use Rattle.bridge_table.proofs.laws.asked_right.Goals as goal

pub returns : goal.returns
returns c = record { right = asked_right }
