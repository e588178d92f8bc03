use Rattle.std.proofs.Common.{rules}
use Rattle.session_lines.proofs.move_line.walked_of.Goals as goal

pub returns-in-Walked : goal.returns-in-Walked
returns-in-Walked c = search rules
