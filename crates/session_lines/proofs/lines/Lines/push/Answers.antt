use Rattle.std.proofs.Common.{append_assoc, rules}
use Rattle.session_lines.proofs.lines.Lines.push.Goals as goal

pub returns-clause-added : goal.returns-clause-added
returns-clause-added c = search (rules, append_assoc)
