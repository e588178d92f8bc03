use Rattle.std.proofs.Common.{ℕ, List, drop}
use Rattle.std.specs.Global.{Vec}
use Rattle.archive_commands.specs.Paths.{AreAdded, names_of}
use Rattle.archive_commands.proofs.paths.add_named.Given as goal

-- adding what the other files stand for ends what is added for all
abbrev pub invariant-loop-file : goal.invariant-loop-file
invariant-loop-file g l = (new : List (Vec ℕ)) → AreAdded (g.F.Folders.stands_for l.folders) (names_of (drop l.file-index l.files)) l.paths.items new
    → AreAdded (g.F.Folders.stands_for l.folders) (names_of l.files) l.fn.paths.items new
