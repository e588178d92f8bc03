use Rattle.std.proofs.Common.{Some, ap, subst, sym, ◌∙◌}
use Rattle.archive_commands.specs.Lines.{IsLine, digits_line}
use Rattle.archive_commands.specs.declared.lines.LineKind.TheVariants.{Digests}
use Rattle.record_commands.specs.Reports.{FailsToReport, GetsRecord}
use Rattle.record_commands.specs.Words.{IsCanonical}
use Rattle.record_commands.proofs.Converting.{returned}
use Rattle.archive_commands.proofs.Digesting.{fails_otherwise}
use Rattle.archive_commands.proofs.lines.digest_line.Goals as goal

pub returns-in_err-digest-clause-fails : goal.returns-in_err-digest-clause-fails
returns-in_err-digest-clause-fails g c =
    let file = c.args.file.now in
    let Gets = GetsRecord (g.I.Inputs.opens_not c.args.inputs.now (Some file)) (g.I.Inputs.opens c.args.inputs.now (Some file)) g.I.Input.Read.remaining in
    let Fails = FailsToReport Gets (IsLine Digests c.args.end file) in
    returned Fails _ c.from_residual.result c.from_residual.ensures.1
    (λ fault gives. subst Fails (sym gives) (fails_otherwise Gets IsCanonical (IsLine Digests c.args.end file) c.in_err-digest.field-0.0 c.in_err-digest.ensures.fails c.in_err-digest.ensures.no_write))

pub returns-in-Ok-clause-line : goal.returns-in-Ok-clause-line
returns-in-Ok-clause-line g c =
    let has = c.in_ok-digest.ensures.digest in
    (has.0, has.1, c.in-Ok.ensures ∙ ap (digits_line c.args.end c.args.file.now) has.2)
