use Rattle.std.proofs.Common.{rules}
use Rattle.session_lines.proofs.lines.Lines.end_line.Goals as goal

pub returns-clause-added : goal.returns-clause-added
returns-clause-added c = search rules
