use Rattle.bridge_table.proofs.SentRight.{sent_legal}
use Rattle.bridge_table.proofs.laws.sent_legal.Goals as goal

pub returns : goal.returns
returns c = record { legal = sent_legal }
