use Rattle.std.proofs.Common.{rules}
use Rattle.csa_text.proofs.moment.date_of.Goals as goal

pub returns-clause-value : goal.returns-clause-value
returns-clause-value c = search rules
