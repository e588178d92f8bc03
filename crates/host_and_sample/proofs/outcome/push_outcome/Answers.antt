use Rattle.std.proofs.Common.{rules}
use Rattle.host_and_sample.proofs.outcome.push_outcome.Goals as goal

pub returns-in-Perpetual : goal.returns-in-Perpetual
returns-in-Perpetual c = search rules

pub returns-in-Perpetual-2 : goal.returns-in-Perpetual-2
returns-in-Perpetual-2 c = search rules

pub returns-in-MaxMoves : goal.returns-in-MaxMoves
returns-in-MaxMoves c = rw c.in-MaxMoves.is c.push_two-in-MaxMoves.ensures.added
