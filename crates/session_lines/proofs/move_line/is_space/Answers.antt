use Rattle.std.proofs.Common.{rules}
use Rattle.session_lines.proofs.move_line.is_space.Goals as goal

pub returns : goal.returns
returns c = search rules
