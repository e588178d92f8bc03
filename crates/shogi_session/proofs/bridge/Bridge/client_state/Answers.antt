use Rattle.std.proofs.Common.{rules}
use Rattle.shogi_session.proofs.bridge.Bridge.client_state.Goals as goal

pub returns-in-LoggingIn : goal.returns-in-LoggingIn
returns-in-LoggingIn c = search rules
