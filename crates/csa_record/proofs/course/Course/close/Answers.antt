use Rattle.std.proofs.Common.{rules}
use Rattle.csa_record.proofs.course.Course.close.Goals as goal

pub returns-then-is_some-clause-ok : goal.returns-then-is_some-clause-ok
returns-then-is_some-clause-ok c = search rules

pub returns-then-is_some-clause-answer : goal.returns-then-is_some-clause-answer
returns-then-is_some-clause-answer c = search rules

pub returns-then-is_some-clause-changed : goal.returns-then-is_some-clause-changed
returns-then-is_some-clause-changed c = search rules
