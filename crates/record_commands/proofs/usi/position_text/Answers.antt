use Rattle.std.proofs.Common.{rules}
use Rattle.record_commands.proofs.usi.position_text.Goals as goal

pub returns : goal.returns
returns c = search rules
