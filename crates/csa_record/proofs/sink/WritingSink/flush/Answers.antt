use Rattle.std.proofs.Common.{rules}
use Rattle.csa_record.proofs.sink.WritingSink.flush.Goals as goal

pub returns-in-Ok-clause-settled : goal.returns-in-Ok-clause-settled
returns-in-Ok-clause-settled g c = search rules
