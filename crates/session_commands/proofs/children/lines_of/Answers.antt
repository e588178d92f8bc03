use Rattle.std.proofs.Common.{rules}
use Rattle.session_commands.proofs.children.lines_of.Goals as goal

pub returns-in-None : goal.returns-in-None
returns-in-None g c = search rules
