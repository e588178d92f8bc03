use Rattle.std.proofs.Common.{◌<◌, ◌∙◌, ap, arith, length, take_all}
use Rattle.archive_commands.specs.ManyPrinted.{no_file}
use Rattle.archive_commands.specs.SameGroups.{tally_from}
use Rattle.archive_commands.proofs.Printing.{tally_more}
use Rattle.archive_commands.proofs.same.report_all.Goals as goal

pub loop-at-preserved : goal.loop-at-preserved
loop-at-preserved g c =
    let placings = c.args.placings.now in
    let less : c.loop-at.at < length placings = omega (arith, c.loop-at-test.true, c.requires) in
    record {
      count = omega (arith, c.loop-at.invariant.count, c.in_ok-tally.ensures.count);
      kinds = tally_more no_file c.loop-at.tally c.in_ok-tally.tally placings c.loop-at.at _ less c.loop-at.invariant.kinds c.in_ok-tally.ensures.kind;
    }

pub returns-clause-kinds : goal.returns-clause-kinds
returns-clause-kinds g c =
    let placings = c.args.placings.now in
    c.loop-at.invariant.kinds ∙ ap (tally_from no_file) (take_all c.loop-at.at placings (omega (arith, c.loop-at-test.false, c.requires)))
