use Rattle.std.proofs.Common.{◌≡◌, take}
use Rattle.archive_commands.specs.Many.{counted}
use Rattle.archive_commands.specs.ManyPrinted.{no_file}
use Rattle.archive_commands.specs.SameGroups.{tally_from}
use Rattle.archive_commands.proofs.same.report_all.Given as goal

abbrev pub invariant-loop-at : goal.invariant-loop-at
invariant-loop-at g l = record {
  count : counted l.tally ≡ l.at;
  kinds : l.tally ≡ tally_from no_file (take l.at l.placings);
}
