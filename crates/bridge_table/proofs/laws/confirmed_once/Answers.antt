use Rattle.bridge_table.proofs.ConfirmedOnce.{confirmed_once}
use Rattle.bridge_table.proofs.laws.confirmed_once.Goals as goal

pub returns : goal.returns
returns c = record { once = confirmed_once }
