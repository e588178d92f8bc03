use Rattle.bridge_table.proofs.Counting.{counts_first, counts_next}
use Rattle.bridge_table.proofs.laws.summary_line_once.Goals as goal

pub returns-clause-first : goal.returns-clause-first
returns-clause-first c = counts_first

pub returns-clause-next : goal.returns-clause-next
returns-clause-next c = counts_next
