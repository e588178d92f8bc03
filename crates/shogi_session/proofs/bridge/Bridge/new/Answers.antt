use Rattle.std.proofs.Common.{rules}
use Rattle.shogi_session.proofs.bridge.Bridge.new.Goals as goal

pub returns-clause-state : goal.returns-clause-state
returns-clause-state c = search rules
