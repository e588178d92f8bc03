use Rattle.std.proofs.Common.{Err, ap}
use Rattle.record_commands.specs.Inputs.{path_of}
use Rattle.record_commands.specs.Reports.{FailsToReport, GetsRecord}
use Rattle.record_commands.specs.Words.{IsCanonical}
use Rattle.record_commands.proofs.Converting.{returned}
use Rattle.record_commands.proofs.Recording.{cut_short_so, never_written, no_record, none_read, normal_fails, normal_so}
use Rattle.record_commands.proofs.normal.normal.Goals as goal

pub returns-clause-accepted : goal.returns-clause-accepted
returns-clause-accepted g c =
    let path = path_of c.args.file in
    let Unopened = g.I.Inputs.opens_not c.args.inputs.now path in
    let Opened = g.I.Inputs.opens c.args.inputs.now path in
    let held = g.T.Sink.held c.args.sink.now in
    let now = g.T.Sink.held c.normalise.new.sink in
    let after = c.normalise.new.source in
    let h = c.normalise.ensures in
    normal_so Unopened Opened g.I.Input.Read.remaining c.in_ok-input.input c.new.result.inner after.inner after.ended c.new.result.failures after.failures held now c.normalise.result
    c.in_ok-input.ensures.opened c.new.ensures.inner c.new.ensures.failures h.accepted h.ended h.quiet

pub returns-clause-fails : goal.returns-clause-fails
returns-clause-fails g c =
    let path = path_of c.args.file in
    let Unopened = g.I.Inputs.opens_not c.args.inputs.now path in
    let Opened = g.I.Inputs.opens c.args.inputs.now path in
    let held = g.T.Sink.held c.args.sink.now in
    let now = g.T.Sink.held c.normalise.new.sink in
    let after = c.normalise.new.source in
    let h = c.normalise.ensures in
    normal_fails Unopened Opened g.I.Input.Read.remaining c.in_ok-input.input c.new.result.inner after.inner after.ended c.new.result.failures after.failures held now c.normalise.result
    c.in_ok-input.ensures.opened c.new.ensures.inner c.new.ensures.failures h.refused h.read_fault h.quiet h.cut_short h.memory

pub returns-clause-cut_short : goal.returns-clause-cut_short
returns-clause-cut_short g c =
    let path = path_of c.args.file in
    let Unopened = g.I.Inputs.opens_not c.args.inputs.now path in
    let Opened = g.I.Inputs.opens c.args.inputs.now path in
    let held = g.T.Sink.held c.args.sink.now in
    let now = g.T.Sink.held c.normalise.new.sink in
    let after = c.normalise.new.source in
    let h = c.normalise.ensures in
    cut_short_so Unopened Opened g.I.Input.Read.remaining c.in_ok-input.input c.new.result.inner after.inner after.ended c.new.result.failures after.failures held now c.normalise.result
    c.in_ok-input.ensures.opened c.new.ensures.inner c.new.ensures.failures h.cut_short h.quiet

pub returns-in_err-input-clause-fails : goal.returns-in_err-input-clause-fails
returns-in_err-input-clause-fails g c =
    let path = path_of c.args.file in
    let Unopened = g.I.Inputs.opens_not c.args.inputs.now path in
    let Opened = g.I.Inputs.opens c.args.inputs.now path in
    let remaining = g.I.Input.Read.remaining in
    let Gets = GetsRecord Unopened Opened remaining in
    returned (FailsToReport Gets IsCanonical) _ c.from_residual.result c.from_residual.ensures.1
    (λ fault gives. no_record Gets IsCanonical fault (never_written Unopened Opened remaining) (none_read Unopened Opened remaining c.in_err-input.field-0.0 fault (λ is. c.in_err-input.ensures.failed (ap Err is)) gives))
