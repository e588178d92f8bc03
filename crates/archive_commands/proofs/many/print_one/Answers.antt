use Rattle.std.proofs.Common.{IfErr, subst}
use Rattle.archive_commands.specs.ManyPrinted.{StopsAt}
use Rattle.archive_commands.proofs.ManyFiles.{no_text_printed}
use Rattle.archive_commands.proofs.many.print_one.Goals as goal

pub returns-in-Ok-clause-stops : goal.returns-in-Ok-clause-stops
returns-in-Ok-clause-stops g c =
    subst (λ path. IfErr c.print_file.result (StopsAt (g.I.Inputs.opens_not c.args.inputs.now) (g.I.Inputs.opens c.args.inputs.now) g.I.Input.Read.remaining c.args.form path
    (g.W.Write.contents c.args.out.now) (g.E.Notices.shown c.args.notices.now) (g.W.Write.contents c.print_file.new.out) (g.E.Notices.shown c.print_file.new.notices)))
    c.in-Ok.ensures.cases.0 c.print_file.ensures.stops

pub returns-in-Err-clause-printed : goal.returns-in-Err-clause-printed
returns-in-Err-clause-printed g c =
    no_text_printed (g.I.Inputs.opens_not c.args.inputs.now) (g.I.Inputs.opens c.args.inputs.now) g.I.Input.Read.remaining c.args.form c.args.path.now
    (g.W.Write.contents c.args.out.now) (g.E.Notices.shown c.args.notices.now) (g.E.Notices.shown c.print_no_text.new.notices) c.args.tally c.print_no_text.result
    c.in-Err.ensures.cases.0 c.print_no_text.ensures.printed c.print_no_text.ensures.count
