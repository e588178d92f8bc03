use Rattle.std.proofs.Common.{rules}
use Rattle.record_commands.proofs.incoming.Incoming.line.Goals as goal

pub returns : goal.returns
returns g c = search rules
