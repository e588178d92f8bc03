use Rattle.std.proofs.Common.{rules}
use Rattle.csa_record.proofs.titles.Titles.name.Goals as goal

pub returns-in_err-as_ref-clause-value : goal.returns-in_err-as_ref-clause-value
returns-in_err-as_ref-clause-value c = search rules

pub returns-clause-value : goal.returns-clause-value
returns-clause-value c = search rules
