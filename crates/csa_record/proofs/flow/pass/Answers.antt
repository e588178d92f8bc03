use Rattle.std.proofs.Common.{rules}
use Rattle.csa_record.proofs.flow.pass.Goals as goal

pub returns-in_err-text-clause-fault : goal.returns-in_err-text-clause-fault
returns-in_err-text-clause-fault g c = search rules
