use Rattle.std.proofs.Common.{Err, Some, ap}
use Rattle.record_commands.specs.Reports.{FailsToReport, GetsRecord}
use Rattle.record_commands.specs.Words.{IsCanonical}
use Rattle.record_commands.proofs.Converting.{returned}
use Rattle.record_commands.proofs.Recording.{never_written, no_record, none_read}
use Rattle.archive_commands.proofs.Digesting.{digest_fails, digest_read}
use Rattle.archive_commands.proofs.lines.digest.Goals as goal

pub returns-clause-digest : goal.returns-clause-digest
returns-clause-digest g c =
    let file = c.args.file.now in
    let after = c.digest.new.source in
    let h = c.digest.ensures in
    digest_read (g.I.Inputs.opens_not c.args.inputs.now (Some file)) (g.I.Inputs.opens c.args.inputs.now (Some file)) g.I.Input.Read.remaining
    c.in_ok-input.input c.new.result.inner after.inner after.ended c.new.result.failures after.failures c.digest.result
    c.in_ok-input.ensures.opened c.new.ensures.inner c.new.ensures.failures h.stated h.ended h.quiet

pub returns-clause-fails : goal.returns-clause-fails
returns-clause-fails g c =
    let file = c.args.file.now in
    let after = c.digest.new.source in
    let h = c.digest.ensures in
    digest_fails (g.I.Inputs.opens_not c.args.inputs.now (Some file)) (g.I.Inputs.opens c.args.inputs.now (Some file)) g.I.Input.Read.remaining IsCanonical
    c.in_ok-input.input c.new.result.inner after.inner after.ended c.new.result.failures after.failures c.digest.result
    c.in_ok-input.ensures.opened c.new.ensures.inner c.new.ensures.failures h.refused h.read_fault h.quiet h.memory h.no_write

pub returns-in_err-input-clause-fails : goal.returns-in_err-input-clause-fails
returns-in_err-input-clause-fails g c =
    let file = c.args.file.now in
    let Unopened = g.I.Inputs.opens_not c.args.inputs.now (Some file) in
    let Opened = g.I.Inputs.opens c.args.inputs.now (Some file) in
    let remaining = g.I.Input.Read.remaining in
    let Gets = GetsRecord Unopened Opened remaining in
    returned (FailsToReport Gets IsCanonical) _ c.from_residual.result c.from_residual.ensures.1
    (λ fault gives. no_record Gets IsCanonical fault (never_written Unopened Opened remaining) (none_read Unopened Opened remaining c.in_err-input.field-0.0 fault (λ is. c.in_err-input.ensures.failed (ap Err is)) gives))
