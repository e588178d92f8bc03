use Rattle.std.proofs.Common.{rules}
use Rattle.session_commands.proofs.serve.served.Goals as goal

pub returns-in-Ok-Running-clause-gone : goal.returns-in-Ok-Running-clause-gone
returns-in-Ok-Running-clause-gone c = search rules
