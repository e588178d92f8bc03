use Rattle.std.proofs.Common.{}
use Rattle.session_commands.proofs.Talks.{read_fault}
use Rattle.session_commands.proofs.door.read_fault.Goals as goal

pub returns : goal.returns
returns c = rw c.from.ensures (read_fault c.of.result)
