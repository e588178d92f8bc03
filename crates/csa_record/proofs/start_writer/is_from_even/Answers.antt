use Rattle.std.proofs.Common.{rules}
use Rattle.csa_record.proofs.start_writer.is_from_even.Goals as goal

pub returns-then-count_held-eq0-2 : goal.returns-then-count_held-eq0-2
returns-then-count_held-eq0-2 c = search rules
