use Rattle.bridge_table.proofs.WholeLog.{asked_for, log_for}
use Rattle.bridge_table.proofs.laws.log_instanced.Goals as goal

pub returns-clause-answered : goal.returns-clause-answered
returns-clause-answered c = log_for

pub returns-clause-asked : goal.returns-clause-asked
returns-clause-asked c = asked_for
