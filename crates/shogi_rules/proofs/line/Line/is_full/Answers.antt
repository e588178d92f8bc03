use Rattle.std.proofs.Common.{rules}
use Rattle.shogi_rules.proofs.line.Line.is_full.Goals as goal

pub returns : goal.returns
returns c = search rules
