use Rattle.std.proofs.Common.{take}
use Rattle.std.specs.Io.KnownBytes.{Appends}
use Rattle.archive_commands.specs.Lists.{items_of}
use Rattle.archive_commands.specs.SameGroups.{group_lines}
use Rattle.archive_commands.proofs.same.print_groups.Given as goal

-- the lines of the members before this one are printed
abbrev pub invariant-loop-k : goal.invariant-loop-k
invariant-loop-k g l = Appends (g.W.Write.contents l.fn.out) (g.W.Write.contents l.out) (group_lines l.end (items_of l.paths) 0 (take l.k l.members))
