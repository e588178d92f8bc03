use Rattle.std.proofs.Common.{rules}
use Rattle.csa_record.proofs.course.Course.ending.Goals as goal

pub returns-clause-value : goal.returns-clause-value
returns-clause-value c = search rules
