use Rattle.std.proofs.Common.{rules}
use Rattle.csa_record.proofs.flow.FlowFaultFromRefusal.from.Goals as goal

pub returns-in-OutOfMemory : goal.returns-in-OutOfMemory
returns-in-OutOfMemory c = search rules
