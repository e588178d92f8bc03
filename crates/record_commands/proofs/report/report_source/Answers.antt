use Rattle.std.proofs.Common.{inr, subst, sym}
use Rattle.std.specs.Io.KnownBytes.{Appends}
use Rattle.csa_record.specs.Flow.{ReadsRecord}
use Rattle.record_commands.specs.Reports.{FailsToReport}
use Rattle.record_commands.specs.Printing.{Fits}
use Rattle.record_commands.proofs.Converting.{returned}
use Rattle.record_commands.proofs.Recording.{no_record, reads_record}
use Rattle.record_commands.proofs.report.report_source.Goals as goal

pub returns-clause-accepted : goal.returns-clause-accepted
returns-clause-accepted g c =
    let s = c.args.source.now in
    let t = c.read_from.new.source in
    let h = c.read_from.ensures in
    let Reads = ReadsRecord (g.S.Source.known s) (g.S.Source.known t) (g.S.Source.ended t) (g.S.Source.failed s) (g.S.Source.failed t) in
    let reads = reads_record (g.S.Source.known s) (g.S.Source.known t) (g.S.Source.ended t) (g.S.Source.failed s) (g.S.Source.failed t) c.read_from.result h.stated h.ended h.refused h.read_fault h.quiet h.memory h.no_write in
    record {
      game = c.in_ok-record.record;
      text = c.in-Ok.bytes.items;
      read = subst Reads c.in_ok-record.was reads;
      fits = c.in-Ok.ensures.fits;
      printed = subst (λ xs. Appends (g.W.Write.contents c.args.out.now) (g.W.Write.contents c.write_all.new.writer) xs) c.as_slice.ensures.value c.in_ok-write_all.ensures.bytes;
    }

pub returns-in_err-record-clause-fails : goal.returns-in_err-record-clause-fails
returns-in_err-record-clause-fails g c =
    let s = c.args.source.now in
    let t = c.read_from.new.source in
    let h = c.read_from.ensures in
    let Reads = ReadsRecord (g.S.Source.known s) (g.S.Source.known t) (g.S.Source.ended t) (g.S.Source.failed s) (g.S.Source.failed t) in
    let reads = reads_record (g.S.Source.known s) (g.S.Source.known t) (g.S.Source.ended t) (g.S.Source.failed s) (g.S.Source.failed t) c.read_from.result h.stated h.ended h.refused h.read_fault h.quiet h.memory h.no_write in
    returned (FailsToReport Reads (Fits c.args.text)) _ c.from_residual.result c.from_residual.ensures.1
    (λ fault gives. subst (FailsToReport Reads (Fits c.args.text)) (sym gives) (no_record Reads (Fits c.args.text) c.in_err-record.field-0.0 (λ no_text. no_text) (subst Reads c.in_err-record.was reads)))

pub returns-in_default-clause-fails : goal.returns-in_default-clause-fails
returns-in_default-clause-fails g c =
    let s = c.args.source.now in
    let t = c.read_from.new.source in
    let h = c.read_from.ensures in
    let Reads = ReadsRecord (g.S.Source.known s) (g.S.Source.known t) (g.S.Source.ended t) (g.S.Source.failed s) (g.S.Source.failed t) in
    let reads = reads_record (g.S.Source.known s) (g.S.Source.known t) (g.S.Source.ended t) (g.S.Source.failed s) (g.S.Source.failed t) c.read_from.result h.stated h.ended h.refused h.read_fault h.quiet h.memory h.no_write in
    inr (c.in_ok-record.record, subst Reads c.in_ok-record.was reads)

pub returns-in_err-write_all-clause-fails : goal.returns-in_err-write_all-clause-fails
returns-in_err-write_all-clause-fails g c =
    let s = c.args.source.now in
    let t = c.read_from.new.source in
    let h = c.read_from.ensures in
    let Reads = ReadsRecord (g.S.Source.known s) (g.S.Source.known t) (g.S.Source.ended t) (g.S.Source.failed s) (g.S.Source.failed t) in
    let reads = reads_record (g.S.Source.known s) (g.S.Source.known t) (g.S.Source.ended t) (g.S.Source.failed s) (g.S.Source.failed t) c.read_from.result h.stated h.ended h.refused h.read_fault h.quiet h.memory h.no_write in
    returned (FailsToReport Reads (Fits c.args.text)) _ c.from_residual-in_err-write_all.result c.from_residual-in_err-write_all.ensures.1
    (λ fault gives. subst (FailsToReport Reads (Fits c.args.text)) (sym gives) (c.in_ok-record.record, c.in-Ok.bytes.items, subst Reads c.in_ok-record.was reads, c.in-Ok.ensures.fits))
