use Rattle.std.proofs.Common.{rules}
use Rattle.csa_record.proofs.record.Record.ending_time.Goals as goal

pub returns : goal.returns
returns c = search rules
