use Rattle.std.proofs.Common.{rules}
use Rattle.csa_record.proofs.source.Reading.new.Goals as goal

pub returns-clause-ended : goal.returns-clause-ended
returns-clause-ended c = search rules
