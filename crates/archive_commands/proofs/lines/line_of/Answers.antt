use Rattle.std.proofs.Common.{IfOk, Some, string_bytes, subst, sym}
use Rattle.archive_commands.specs.Lines.{HasLine, IsLine}
use Rattle.archive_commands.specs.declared.lines.LineKind.{LineKind}
use Rattle.archive_commands.proofs.lines.line_of.Goals as goal

pub returns-in-Checks-clause-line : goal.returns-in-Checks-clause-line
returns-in-Checks-clause-line g c =
    let file = c.args.file.now in
    let Gives : LineKind → Type 0 =
    λ kind. IfOk c.checked_line.result (λ text. HasLine (g.I.Inputs.opens_not c.args.inputs.now (Some file)) (g.I.Inputs.opens c.args.inputs.now (Some file)) g.I.Input.Read.remaining (IsLine kind c.args.form.path_end file) (string_bytes text)) in
    subst Gives (sym c.in-Checks.is) c.checked_line.ensures.line

pub returns-in-Digests-clause-line : goal.returns-in-Digests-clause-line
returns-in-Digests-clause-line g c =
    let file = c.args.file.now in
    let Gives : LineKind → Type 0 =
    λ kind. IfOk c.digest_line.result (λ text. HasLine (g.I.Inputs.opens_not c.args.inputs.now (Some file)) (g.I.Inputs.opens c.args.inputs.now (Some file)) g.I.Input.Read.remaining (IsLine kind c.args.form.path_end file) (string_bytes text)) in
    subst Gives (sym c.in-Digests.is) c.digest_line.ensures.line
