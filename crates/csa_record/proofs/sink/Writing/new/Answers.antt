use Rattle.std.proofs.Common.{rules}
use Rattle.csa_record.proofs.sink.Writing.new.Goals as goal

pub returns-clause-settled : goal.returns-clause-settled
returns-clause-settled c = search rules
