use Rattle.std.proofs.Common.{rules}
use Rattle.csa_record.proofs.Onward.{new_reader}
use Rattle.csa_record.proofs.record_reader.RecordReader.new.Goals as goal

pub returns : goal.returns
returns c = search (rules, new_reader)
