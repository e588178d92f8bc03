use Rattle.std.proofs.Common.{rules}
use Rattle.shogi_rules.proofs.line.Line.moves.Goals as goal

pub returns-clause-value : goal.returns-clause-value
returns-clause-value c = search rules
