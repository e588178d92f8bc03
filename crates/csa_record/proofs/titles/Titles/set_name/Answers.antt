use Rattle.std.proofs.Common.{rules}
use Rattle.csa_record.proofs.titles.Titles.set_name.Goals as goal

pub returns-in-White-clause-answer : goal.returns-in-White-clause-answer
returns-in-White-clause-answer c = search rules

pub returns-in-White-clause-changed : goal.returns-in-White-clause-changed
returns-in-White-clause-changed c = search rules
