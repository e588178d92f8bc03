use Rattle.std.proofs.Common.{rules}
use Rattle.csa_record.proofs.sink.send.Goals as goal

pub returns-clause-settled : goal.returns-clause-settled
returns-clause-settled g c = search rules
