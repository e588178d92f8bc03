use Rattle.std.proofs.Common.{rules}
use Rattle.csa_record.proofs.record_reader.take_statement.Goals as goal

pub returns-in-Ok-clause-taken : goal.returns-in-Ok-clause-taken
returns-in-Ok-clause-taken c = search rules
