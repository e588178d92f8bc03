use Rattle.std.proofs.Common.{rules}
use Rattle.shogi_session.proofs.in_play.refuse.Goals as goal

pub returns-clause-status : goal.returns-clause-status
returns-clause-status c = search rules
