use Rattle.std.proofs.Common.{rules}
use Rattle.csa_record.proofs.record_reader.RecordReader.fed.Goals as goal

pub returns-in-Some-clause-count : goal.returns-in-Some-clause-count
returns-in-Some-clause-count c = search rules

pub returns-in-Some-clause-bytes : goal.returns-in-Some-clause-bytes
returns-in-Some-clause-bytes c = search rules
