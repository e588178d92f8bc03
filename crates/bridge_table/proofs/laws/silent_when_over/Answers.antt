use Rattle.bridge_table.proofs.Silent.{fault_silent, over_silent, silent_ever}
use Rattle.bridge_table.proofs.laws.silent_when_over.Goals as goal

pub returns-clause-fault : goal.returns-clause-fault
returns-clause-fault c = fault_silent

pub returns-clause-over : goal.returns-clause-over
returns-clause-over c = over_silent

pub returns-clause-ever : goal.returns-clause-ever
returns-clause-ever c = silent_ever
