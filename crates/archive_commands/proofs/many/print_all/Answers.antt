use Rattle.std.proofs.Common.{◌≡◌, ◌∙◌, ap, arith, get_or, rules, subst, sym}
use Rattle.archive_commands.specs.Lists.{items_of}
use Rattle.archive_commands.specs.ManyPrinted.{PrintsFile, StopsAmong, StopsAt, no_file, printed_of}
use Rattle.record_commands.proofs.Converting.{returned}
use Rattle.archive_commands.proofs.ManyFiles.{all_printed, next_stops, next_printed, stops_here}
use Rattle.archive_commands.proofs.many.print_all.Goals as goal

pub loop-path-preserved : goal.loop-path-preserved
loop-path-preserved g c =
    let Unopened = g.I.Inputs.opens_not c.args.inputs.now in
    let Opened = g.I.Inputs.opens c.args.inputs.now in
    let bytes = g.I.Input.Read.remaining in
    let paths = c.args.paths.now in
    let i = c.loop-path.path-index in
    let now = printed_of (g.W.Write.contents c.loop-path.out) (g.E.Notices.shown c.loop-path.notices) c.loop-path.tally in
    let out = g.W.Write.contents c.print_one.new.out in
    let mid = printed_of out (g.E.Notices.shown c.file_done.new.self) c.in_ok-tally.tally in
    let item = c.path-item.result in
    let is : item ≡ get_or paths i item = search rules in
    let one = subst (λ err. PrintsFile Unopened Opened bytes c.args.form (get_or paths i item).items now (printed_of out err c.in_ok-tally.tally)) (sym c.file_done.ensures)
    (subst (λ path. PrintsFile Unopened Opened bytes c.args.form path now (printed_of out (g.E.Notices.shown c.print_one.new.notices) c.in_ok-tally.tally))
    (c.as_slice-path.ensures.value ∙ ap (λ p. p.items) is) c.in_ok-tally.ensures.printed) in
    record {
      printed = λ new rest. c.loop-path.invariant.printed new
          (next_printed Unopened Opened bytes c.args.form paths i item now mid new c.loop-path-test.true one rest);
      stops = λ out err fault rest. c.loop-path.invariant.stops out err fault
          (next_stops Unopened Opened bytes c.args.form paths i item now mid out err fault c.loop-path-test.true one rest);
      count = omega (arith, c.loop-path.invariant.count, c.in_ok-tally.ensures.count);
    }

pub returns-in_err-tally-clause-stops : goal.returns-in_err-tally-clause-stops
returns-in_err-tally-clause-stops g c =
    let Unopened = g.I.Inputs.opens_not c.args.inputs.now in
    let Opened = g.I.Inputs.opens c.args.inputs.now in
    let bytes = g.I.Input.Read.remaining in
    let paths = c.args.paths.now in
    let i = c.loop-path.path-index in
    let first = printed_of (g.W.Write.contents c.args.out.now) (g.E.Notices.shown c.args.notices.now) no_file in
    let now = printed_of (g.W.Write.contents c.loop-path.out) (g.E.Notices.shown c.loop-path.notices) c.loop-path.tally in
    let out = g.W.Write.contents c.print_one.new.out in
    let err = g.E.Notices.shown c.print_one.new.notices in
    let fault = c.in_err-tally.field-0.0 in
    let Stops = StopsAmong Unopened Opened bytes c.args.form (items_of paths) first out err in
    let item = c.path-item.result in
    let is : item ≡ get_or paths i item = search rules in
    let at = subst (λ path. StopsAt Unopened Opened bytes c.args.form path now.out now.err out err fault) (c.as_slice-path.ensures.value ∙ ap (λ p. p.items) is) c.in_err-tally.ensures.stops in
    returned Stops _ c.from_residual.result c.from_residual.ensures.1
    (λ other gives. subst Stops (sym gives) (c.loop-path.invariant.stops out err fault
    (stops_here Unopened Opened bytes c.args.form paths i item now out err fault c.loop-path-test.true at)))

pub returns-clause-printed : goal.returns-clause-printed
returns-clause-printed g c =
    let now = printed_of (g.W.Write.contents c.loop-path.out) (g.E.Notices.shown c.loop-path.notices) c.loop-path.tally in
    c.loop-path.invariant.printed now
    (all_printed (g.I.Inputs.opens_not c.args.inputs.now) (g.I.Inputs.opens c.args.inputs.now) g.I.Input.Read.remaining c.args.form c.args.paths.now c.loop-path.path-index now
    (omega (arith, c.loop-path-test.false, c.loop-path.auto.path-index-end)))
