use Rattle.std.proofs.Common.{rules}
use Rattle.shogi_session.proofs.bridge.Bridge.engine_state.Goals as goal

pub returns : goal.returns
returns c = search rules
