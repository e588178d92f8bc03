use Rattle.std.proofs.Common.{ℕ, List, ◌++◌, length}
use Rattle.archive_commands.specs.Lists.{Lists, items_of}
use Rattle.archive_commands.proofs.list.paths.Given as goal

-- the paths so far and those of the rest are those of the whole list
abbrev pub invariant-loop-part : goal.invariant-loop-part
invariant-loop-part l = (more : List (List ℕ)) → Lists l.end l.rest more → Lists l.end l.list (items_of l.paths.items ++ more)

abbrev pub decreases-loop-part : goal.decreases-loop-part
decreases-loop-part l = length l.rest
