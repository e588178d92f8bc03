use Rattle.std.proofs.Common.{◌≡◌, ℕ, List, Option, drop}
use Rattle.csa_record.specs.declared.flow.FlowFault.{FlowFault}
use Rattle.archive_commands.specs.Many.{counted}
use Rattle.archive_commands.specs.ManyPrinted.{StopsAmong, PrintsAll, Printed, no_file, printed_of}
use Rattle.archive_commands.specs.Lists.{items_of}
use Rattle.archive_commands.proofs.many.print_all.Given as goal

-- what is printed about the other files ends what is printed about all
abbrev pub invariant-loop-path : goal.invariant-loop-path
invariant-loop-path g l =
    let Unopened = g.I.Inputs.opens_not l.inputs in
    let Opened = g.I.Inputs.opens l.inputs in
    let bytes = g.I.Input.Read.remaining in
    let first = printed_of (g.W.Write.contents l.fn.out) (g.E.Notices.shown l.fn.notices) no_file in
    let now = printed_of (g.W.Write.contents l.out) (g.E.Notices.shown l.notices) l.tally in
    record {
      printed : (new : Printed) → PrintsAll Unopened Opened bytes l.form (items_of (drop l.path-index l.paths)) now new → PrintsAll Unopened Opened bytes l.form (items_of l.paths) first new;
      stops : (out err : Option (List ℕ)) (fault : FlowFault) → StopsAmong Unopened Opened bytes l.form (items_of (drop l.path-index l.paths)) now out err fault
          → StopsAmong Unopened Opened bytes l.form (items_of l.paths) first out err fault;
      count : counted l.tally ≡ l.path-index;
    }
