use Rattle.std.proofs.Common.{ℕ, List, drop}
use Rattle.std.specs.Global.{Vec}
use Rattle.archive_commands.specs.Lists.{items_of}
use Rattle.archive_commands.specs.Paths.{AreAdded}
use Rattle.archive_commands.proofs.paths.add_listed.Given as goal

-- adding what the other paths stand for ends what is added for all
abbrev pub invariant-loop-path : goal.invariant-loop-path
invariant-loop-path g l = (new : List (Vec ℕ)) → AreAdded (g.F.Folders.stands_for l.folders) (items_of (drop l.path-index l.listed)) l.paths.items new
    → AreAdded (g.F.Folders.stands_for l.folders) (items_of l.listed) l.fn.paths.items new
