use Rattle.std.proofs.Common.{rules}
use Rattle.session_commands.proofs.LackOfMemory.{server_lacks}
use Rattle.session_commands.proofs.bridging.send.Goals as goal

pub returns-in_err-status-clause-out_of_memory : goal.returns-in_err-status-clause-out_of_memory
returns-in_err-status-clause-out_of_memory g c = search rules

pub returns-clause-sent : goal.returns-clause-sent
returns-clause-sent g c = search rules

pub returns-clause-out_of_memory : goal.returns-clause-out_of_memory
returns-clause-out_of_memory g c = search (rules, server_lacks)
