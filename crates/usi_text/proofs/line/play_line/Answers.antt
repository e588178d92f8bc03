use Rattle.std.proofs.Common.{rules}
use Rattle.usi_text.proofs.line.play_line.Goals as goal

pub returns : goal.returns
returns c = search rules
