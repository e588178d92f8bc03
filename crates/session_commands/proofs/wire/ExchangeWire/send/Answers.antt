use Rattle.std.proofs.Common.{rules}
use Rattle.session_commands.proofs.wire.ExchangeWire.send.Goals as goal

pub returns-clause-went : goal.returns-clause-went
returns-clause-went g c = search rules
