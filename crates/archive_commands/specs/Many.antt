-- How many files there were, and the line that says so.
use Rattle.std.specs.Prelude.{ℕ, ◌+◌, List, ◌++◌, codes, decimal}
use Rattle.archive_commands.specs.declared.many.Tally.{Tally}

-- the number of files
abbrev pub counted : Tally → ℕ
counted t = t.accepted + t.refused + t.unreadable

-- the line after the last file
abbrev pub tally_line : Tally → List ℕ
tally_line t =
    decimal (counted t) ++ (codes " files: " ++ (decimal t.accepted ++ (codes " accepted, "
    ++ (decimal t.refused ++ (codes " refused, "
    ++ (decimal t.unreadable ++ codes " unreadable"))))))
