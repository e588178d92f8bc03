use Rattle.std.proofs.Common.{rules}
use Rattle.shogi_words.proofs.play.plan_of.Goals as goal

pub returns-clause-quiet : goal.returns-clause-quiet
returns-clause-quiet c = search rules
