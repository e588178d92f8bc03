use Rattle.std.proofs.Common.{rules}
use Rattle.csa_record.proofs.sink.WritingSink.write.Goals as goal

pub returns-then-not-is_empty-clause-count : goal.returns-then-not-is_empty-clause-count
returns-then-not-is_empty-clause-count g c = search rules
