use Rattle.std.proofs.Common.{◌≡◌, ◌++◌, drop, true}
use Rattle.session_commands.specs.LogTexts.{each_after}
use Rattle.session_commands.proofs.log.each_after.Given as goal

abbrev pub invariant-loop-at : goal.invariant-loop-at
invariant-loop-at l = l.text.items ++ each_after l.front l.begins_line (drop l.at l.lines) ≡ each_after l.front true l.lines
