use Rattle.std.proofs.Common.{subst}
use Rattle.csa_record.specs.declared.flow.FlowFault.TheVariants.{Refused}
use Rattle.game_archive.proofs.Readings.{refused_as_read, tells_as_read}
use Rattle.game_archive.proofs.Whole.{passed_on}
use Rattle.game_archive.proofs.keys.key_at.Goals as goal

pub returns-in_err-record-clause-refused : goal.returns-in_err-record-clause-refused
returns-in_err-record-clause-refused g c = λ bytes r gives is.
    let same = passed_on c.from_residual.result c.in_err-record.field-0.0 (Refused r) c.from_residual.ensures.1 is in
    refused_as_read (g.A.Archive.reads c.args.archive.now c.args.at) bytes c.read_record.result c.in_err-record.field-0.0 r gives c.read_record.ensures.reads c.in_err-record.was same

pub returns-in-Ok-clause-text : goal.returns-in-Ok-clause-text
returns-in-Ok-clause-text g c = λ bytes gives. (
  c.in_ok-record.record,
  tells_as_read (g.A.Archive.reads c.args.archive.now c.args.at) bytes c.read_record.result c.in_ok-record.record gives c.read_record.ensures.reads c.in_ok-record.was,
  c.in-Ok.ensures,
)

pub returns-in-Ok-clause-read : goal.returns-in-Ok-clause-read
returns-in-Ok-clause-read g c =
    (c.in_ok-record.record, subst (g.A.Archive.reads c.args.archive.now c.args.at) c.in_ok-record.was c.read_record.ensures.reads, c.in-Ok.ensures)
