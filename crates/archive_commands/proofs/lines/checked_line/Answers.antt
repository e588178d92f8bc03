use Rattle.std.proofs.Common.{Some, subst, sym}
use Rattle.archive_commands.specs.Lines.{IsLine}
use Rattle.record_commands.specs.Reports.{FailsToReport, GetsRecord}
use Rattle.archive_commands.specs.declared.lines.LineKind.TheVariants.{Checks}
use Rattle.record_commands.proofs.Converting.{returned}
use Rattle.record_commands.proofs.Recording.{never_written, no_record}
use Rattle.archive_commands.proofs.lines.checked_line.Goals as goal

pub returns-in_err-record-clause-fails : goal.returns-in_err-record-clause-fails
returns-in_err-record-clause-fails g c =
    let file = c.args.file.now in
    let Unopened = g.I.Inputs.opens_not c.args.inputs.now (Some file) in
    let Opened = g.I.Inputs.opens c.args.inputs.now (Some file) in
    let remaining = g.I.Input.Read.remaining in
    let Fits = IsLine Checks c.args.end file in
    let gets = subst (λ r. GetsRecord Unopened Opened remaining r) c.in_err-record.was c.next_record.ensures in
    returned (FailsToReport (GetsRecord Unopened Opened remaining) Fits) _ c.from_residual.result c.from_residual.ensures.1
    (λ fault gives. subst (FailsToReport (GetsRecord Unopened Opened remaining) Fits) (sym gives) (no_record (GetsRecord Unopened Opened remaining) Fits c.in_err-record.field-0.0 (never_written Unopened Opened remaining) gets))
