use Rattle.std.proofs.Common.{rules}
use Rattle.csa_record.proofs.source.ReadingSource.read.Goals as goal

pub returns-after-self-clause-end : goal.returns-after-self-clause-end
returns-after-self-clause-end g c = search rules

pub returns-in-Err-clause-count : goal.returns-in-Err-clause-count
returns-in-Err-clause-count g c = search rules
