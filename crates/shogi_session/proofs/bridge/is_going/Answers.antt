use Rattle.std.proofs.Common.{rules}
use Rattle.shogi_session.proofs.bridge.is_going.Goals as goal

pub returns-in_default : goal.returns-in_default
returns-in_default c = search rules
