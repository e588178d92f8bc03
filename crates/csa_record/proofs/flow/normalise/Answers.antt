use Rattle.std.proofs.Common.{rules}
use Rattle.csa_record.proofs.flow.normalise.Goals as goal

pub returns-clause-accepted : goal.returns-clause-accepted
returns-clause-accepted g c = search rules

pub returns-clause-cut_short : goal.returns-clause-cut_short
returns-clause-cut_short g c = search rules
