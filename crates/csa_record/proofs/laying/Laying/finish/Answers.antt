use Rattle.std.proofs.Common.{refl}
use Rattle.csa_record.proofs.laying.Laying.finish.Goals as goal

pub returns-in-Ok-clause-answer : goal.returns-in-Ok-clause-answer
returns-in-Ok-clause-answer c = rw (← c.self.view_is) (c.in-Ok.ensures.answer, c.in-Ok.ensures.value)

pub returns-in-Err-clause-answer : goal.returns-in-Err-clause-answer
returns-in-Err-clause-answer c = rw (← c.self.view_is) (c.in-Err.ensures.answer.0, rw c.in-Err.ensures.answer.1 refl)
