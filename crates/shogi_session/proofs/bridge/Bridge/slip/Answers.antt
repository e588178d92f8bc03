use Rattle.std.proofs.Common.{rules}
use Rattle.shogi_session.proofs.bridge.Bridge.slip.Goals as goal

pub returns-in-InGame : goal.returns-in-InGame
returns-in-InGame c = search rules
