use Rattle.std.proofs.Common.{rules}
use Rattle.session_lines.proofs.texts.is_same.Goals as goal

pub returns : goal.returns
returns c = search rules
