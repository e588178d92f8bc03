use Rattle.std.proofs.Common.{Some, inr, subst}
use Rattle.record_commands.specs.Reports.{GetsRecord}
use Rattle.archive_commands.proofs.FileReading.{gets_still, no_write}
use Rattle.archive_commands.proofs.same.record_of.Goals as goal

pub returns-in-Ok-clause-reads : goal.returns-in-Ok-clause-reads
returns-in-Ok-clause-reads g c =
    gets_still _ _ _ _ _ (λ unopened. inr unopened)
    (subst (λ p. GetsRecord (g.I.Inputs.opens_not c.args.inputs.now (Some p)) (g.I.Inputs.opens c.args.inputs.now (Some p)) g.I.Input.Read.remaining c.record.result) c.in-Ok.ensures.cases.0 c.record.ensures)

pub returns-in-Ok-clause-no_write : goal.returns-in-Ok-clause-no_write
returns-in-Ok-clause-no_write g c = no_write _ _ _ c.record.result c.record.ensures
