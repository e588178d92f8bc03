use Rattle.bridge_table.proofs.Instances.{answers_for, plays_for, not_sent, wrong_side}
use Rattle.bridge_table.proofs.laws.moves_instanced.Goals as goal

pub returns-clause-answered : goal.returns-clause-answered
returns-clause-answered c = answers_for

pub returns-clause-confirmed : goal.returns-clause-confirmed
returns-clause-confirmed c = plays_for

pub returns-clause-unsent : goal.returns-clause-unsent
returns-clause-unsent c = not_sent

pub returns-clause-refused : goal.returns-clause-refused
returns-clause-refused c = wrong_side
