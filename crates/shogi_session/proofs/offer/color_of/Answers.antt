use Rattle.std.proofs.Common.{rules}
use Rattle.shogi_session.proofs.offer.color_of.Goals as goal

pub returns-else-eq-2 : goal.returns-else-eq-2
returns-else-eq-2 c = search rules
