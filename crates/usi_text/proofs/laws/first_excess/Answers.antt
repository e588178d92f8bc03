use Rattle.usi_text.proofs.Outcomes.{excess_refused, only_excess}
use Rattle.usi_text.proofs.Tallies.{some_excess, not_both}
use Rattle.usi_text.proofs.laws.first_excess.Goals as goal

pub returns-clause-refused : goal.returns-clause-refused
returns-clause-refused c = excess_refused

pub returns-clause-only : goal.returns-clause-only
returns-clause-only c = only_excess

pub returns-clause-some : goal.returns-clause-some
returns-clause-some c = some_excess

pub returns-clause-never_both : goal.returns-clause-never_both
returns-clause-never_both c = not_both
