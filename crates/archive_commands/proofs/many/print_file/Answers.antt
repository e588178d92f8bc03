use Rattle.std.proofs.Common.{Some, refl, string_bytes, subst}
use Rattle.std.specs.Io.KnownBytes.{Appends}
use Rattle.archive_commands.specs.Lines.{IsLineOf}
use Rattle.archive_commands.specs.ManyPrinted.{accepted, refused, unreadable}
use Rattle.record_commands.specs.Reports.{FailsToReport, GetsRecord}
use Rattle.archive_commands.proofs.many.print_file.Goals as goal

pub returns-in_ok-write_all-in-Ok-clause-printed : goal.returns-in_ok-write_all-in-Ok-clause-printed
returns-in_ok-write_all-in-Ok-clause-printed g c =
    let Printed = Appends (g.W.Write.contents c.args.out.now) (g.W.Write.contents c.write_all.new.writer) in
    accepted (string_bytes c.in-Ok.line) c.in-Ok.ensures.line (subst Printed c.as_bytes.ensures.value c.in_ok-write_all-in-Ok.ensures.bytes) c.make_way.ensures refl

pub returns-in-Ok-refused_lines-clause-printed : goal.returns-in-Ok-refused_lines-clause-printed
returns-in-Ok-refused_lines-clause-printed g c =
    let file = c.args.file.now in
    let Fails = FailsToReport (GetsRecord (g.I.Inputs.opens_not c.args.inputs.now (Some file)) (g.I.Inputs.opens c.args.inputs.now (Some file)) g.I.Input.Read.remaining) (IsLineOf c.args.form file) in
    let Printed = Appends (g.E.Notices.shown c.args.notices.now) (g.E.Notices.shown c.show.new.self) in
    refused c.in-Err-Refused.refusal (string_bytes c.in-Ok-refused_lines.text) (subst Fails c.in-Err-Refused.field-0-is c.in-Err-Refused.ensures.fails) c.in-Ok-refused_lines.ensures refl
    (subst Printed c.deref.ensures c.show.ensures) refl

pub returns-in-Ok-unreadable_lines-clause-printed : goal.returns-in-Ok-unreadable_lines-clause-printed
returns-in-Ok-unreadable_lines-clause-printed g c =
    let file = c.args.file.now in
    let Fails = FailsToReport (GetsRecord (g.I.Inputs.opens_not c.args.inputs.now (Some file)) (g.I.Inputs.opens c.args.inputs.now (Some file)) g.I.Input.Read.remaining) (IsLineOf c.args.form file) in
    let Printed = Appends (g.E.Notices.shown c.args.notices.now) (g.E.Notices.shown c.show-in-Err-ReadFault.new.self) in
    unreadable (string_bytes c.in-Ok-unreadable_lines.text) (subst Fails c.in-Err-ReadFault.field-0-is c.in-Err-ReadFault.ensures.fails) c.in-Ok-unreadable_lines.ensures refl
    (subst Printed c.deref-in-Err-ReadFault.ensures c.show-in-Err-ReadFault.ensures) refl
