use Rattle.std.proofs.Common.{rules}
use Rattle.usi_text.proofs.engine.best.Goals as goal

pub returns-then-eq : goal.returns-then-eq
returns-then-eq c = search rules

pub returns-else-eq-2 : goal.returns-else-eq-2
returns-else-eq-2 c = search rules
