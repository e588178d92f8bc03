use Rattle.std.proofs.Common.{Err, Result, ap, subst, sym}
use Rattle.csa_record.specs.Flow.{ReadsRecord}
use Rattle.csa_record.specs.declared.flow.FlowFault.{FlowFault}
use Rattle.record_game.specs.Game.{Game}
use Rattle.record_commands.specs.Inputs.{path_of}
use Rattle.record_commands.specs.Reports.{FailsToReport, GetsRecord}
use Rattle.record_commands.specs.Printing.{Fits}
use Rattle.record_commands.proofs.Converting.{returned}
use Rattle.record_commands.proofs.Recording.{anew, fails_wider, never_written, no_record, none_read, reports_wider}
use Rattle.record_commands.proofs.report.report.Goals as goal

pub returns-clause-accepted : goal.returns-clause-accepted
returns-clause-accepted g c =
    let path = path_of c.args.file in
    let Unopened = g.I.Inputs.opens_not c.args.inputs.now path in
    let Opened = g.I.Inputs.opens c.args.inputs.now path in
    let remaining = g.I.Input.Read.remaining in
    let s = c.new-source.result in
    let t = c.report_source.new.source in
    let Reads = ReadsRecord (remaining s.inner) (remaining t.inner) t.ended s.failures t.failures in
    let Gets = GetsRecord Unopened Opened remaining in
    let opened = subst Opened (sym c.new-source.ensures.inner) c.in_ok-open.ensures.opened in
    let more = λ (r : Result Game FlowFault) (reads : Reads r). anew Unopened Opened remaining s.inner t.inner t.ended s.failures t.failures r opened c.new-source.ensures.failures reads in
    reports_wider Reads Gets (Fits c.args.text) (g.W.Write.contents c.args.out.now) (g.W.Write.contents c.report_source.new.out) c.report_source.result more c.report_source.ensures.accepted

pub returns-clause-fails : goal.returns-clause-fails
returns-clause-fails g c =
    let path = path_of c.args.file in
    let Unopened = g.I.Inputs.opens_not c.args.inputs.now path in
    let Opened = g.I.Inputs.opens c.args.inputs.now path in
    let remaining = g.I.Input.Read.remaining in
    let s = c.new-source.result in
    let t = c.report_source.new.source in
    let Reads = ReadsRecord (remaining s.inner) (remaining t.inner) t.ended s.failures t.failures in
    let Gets = GetsRecord Unopened Opened remaining in
    let opened = subst Opened (sym c.new-source.ensures.inner) c.in_ok-open.ensures.opened in
    let more = λ (r : Result Game FlowFault) (reads : Reads r). anew Unopened Opened remaining s.inner t.inner t.ended s.failures t.failures r opened c.new-source.ensures.failures reads in
    fails_wider Reads Gets (Fits c.args.text) c.report_source.result more c.report_source.ensures.fails

pub returns-in_err-open-clause-fails : goal.returns-in_err-open-clause-fails
returns-in_err-open-clause-fails g c =
    let path = path_of c.args.file in
    let Unopened = g.I.Inputs.opens_not c.args.inputs.now path in
    let Opened = g.I.Inputs.opens c.args.inputs.now path in
    let remaining = g.I.Input.Read.remaining in
    let Gets = GetsRecord Unopened Opened remaining in
    returned (FailsToReport Gets (Fits c.args.text)) _ c.from_residual.result c.from_residual.ensures.1
    (λ fault gives. no_record Gets (Fits c.args.text) fault (never_written Unopened Opened remaining) (none_read Unopened Opened remaining c.in_err-open.field-0.0 fault (λ is. c.in_err-open.ensures.failed (ap Err is)) gives))
