use Rattle.std.proofs.Common.{rules}
use Rattle.session_commands.proofs.engine.answer.Goals as goal

pub returns-clause-answered : goal.returns-clause-answered
returns-clause-answered g c = search rules
