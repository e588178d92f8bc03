use Rattle.std.proofs.Common.{rules}
use Rattle.host_and_sample.proofs.SampleSteps.{row_bytes, over_bytes, over_stays}
use Rattle.host_and_sample.proofs.sample.Sample.step.Goals as goal

pub returns-in-Ok-clause-row : goal.returns-in-Ok-clause-row
returns-in-Ok-clause-row c = (c.in-Ok.ensures.row.0, c.in-Ok.ensures.row.1)

pub returns-in-Ok-clause-lines : goal.returns-in-Ok-clause-lines
returns-in-Ok-clause-lines c = λ lines row. row_bytes _ _ _ _ lines c.in-Ok.ensures.row row

pub returns-in-Ok-clause-silent : goal.returns-in-Ok-clause-silent
returns-in-Ok-clause-silent c = λ gone. over_bytes _ _ _ _ gone c.in-Ok.ensures.row

pub returns-in-Ok-clause-stays : goal.returns-in-Ok-clause-stays
returns-in-Ok-clause-stays c = λ gone. over_stays _ _ _ _ gone c.in-Ok.ensures.row

pub returns-in-Err-clause-lost : goal.returns-in-Err-clause-lost
returns-in-Err-clause-lost c = search rules
