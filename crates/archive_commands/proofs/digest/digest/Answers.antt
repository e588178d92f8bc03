use Rattle.std.proofs.Common.{Some, string_bytes, subst, sym}
use Rattle.std.specs.Io.KnownBytes.{Appends}
use Rattle.archive_commands.specs.Lines.{IsLine}
use Rattle.record_commands.specs.Reports.{FailsToReport, GetsRecord}
use Rattle.archive_commands.specs.declared.lines.LineKind.TheVariants.{Digests}
use Rattle.record_commands.proofs.Converting.{returned}
use Rattle.shogi_words.specs.declared.request.PathEnd.TheVariants.{Line}
use Rattle.archive_commands.proofs.digest.digest.Goals as goal

pub returns-clause-accepted : goal.returns-clause-accepted
returns-clause-accepted g c =
    let has = c.in_ok-line.ensures.line in
    record {
      game = has.0;
      text = string_bytes c.in_ok-line.line;
      read = has.1;
      fits = has.2;
      printed = subst (λ xs. Appends (g.W.Write.contents c.args.out.now) (g.W.Write.contents c.write_all.new.writer) xs) c.as_bytes.ensures.value c.in_ok-write_all.ensures.bytes;
    }

pub returns-in_err-write_all-clause-fails : goal.returns-in_err-write_all-clause-fails
returns-in_err-write_all-clause-fails g c =
    let file = c.args.file.now in
    let Unopened = g.I.Inputs.opens_not c.args.inputs.now (Some file) in
    let Opened = g.I.Inputs.opens c.args.inputs.now (Some file) in
    let remaining = g.I.Input.Read.remaining in
    let Fits = IsLine Digests Line file in
    let has = c.in_ok-line.ensures.line in
    returned (FailsToReport (GetsRecord Unopened Opened remaining) Fits) _ c.from_residual-in_err-write_all.result c.from_residual-in_err-write_all.ensures.1
    (λ fault gives. subst (FailsToReport (GetsRecord Unopened Opened remaining) Fits) (sym gives) (has.0, string_bytes c.in_ok-line.line, has.1, has.2))
