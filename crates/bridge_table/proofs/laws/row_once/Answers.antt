use Rattle.bridge_table.proofs.RowOnce.{row_once}
use Rattle.bridge_table.proofs.laws.row_once.Goals as goal

pub returns : goal.returns
returns c = record { once = row_once }
