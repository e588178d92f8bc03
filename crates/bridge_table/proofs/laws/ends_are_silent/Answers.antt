use Rattle.bridge_table.proofs.Ends.{end_lines}
use Rattle.bridge_table.proofs.laws.ends_are_silent.Goals as goal

pub returns : goal.returns
returns c = record { silent = end_lines }
