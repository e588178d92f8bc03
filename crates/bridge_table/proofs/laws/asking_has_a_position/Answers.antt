use Rattle.bridge_table.proofs.AlwaysAsks.{asks_by_position}
use Rattle.bridge_table.proofs.laws.asking_has_a_position.Goals as goal

pub returns : goal.returns
returns c = record { position = asks_by_position }
