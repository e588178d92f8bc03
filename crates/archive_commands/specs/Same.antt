-- The files of `same` as an archive, and what ends the printing of its groups.
use Rattle.std.specs.Prelude.{◌≡◌, ◌⊎◌, ℕ, List, [], Option, Some, Result, slice_index_or}
use Rattle.std.specs.Str.{IsUtf8}
use Rattle.csa_record.specs.declared.flow.FlowFault.{FlowFault}
use Rattle.csa_record.specs.declared.flow.FlowFault.TheVariants as flow
use Rattle.record_commands.specs.Reports.{GetsRecord}
use Rattle.record_game.specs.Game.{Game}

-- the path of a file
abbrev pub path_at : List (List ℕ) → ℕ → List ℕ
path_at paths at = slice_index_or paths at []

-- its path is not UTF-8, or it cannot be opened
abbrev pub IsUnopened : (Option (List ℕ) → Type 0) → List ℕ → Type 0
IsUnopened Unopened path = (IsUtf8 path → ⊥) ⊎ Unopened (Some path)

-- a reading of the file of this path may come to this
abbrev pub FileReads : {Input : Type 0} → (Option (List ℕ) → Type 0)
    → (Option (List ℕ) → Input → Type 0) → (Input → Option (List ℕ)) → List ℕ
    → Result Game FlowFault → Type 0
FileReads Unopened Opened bytes path result =
    GetsRecord (IsUnopened Unopened path) (Opened (Some path)) bytes result

-- only a line that cannot be written, or a lack of memory, ends the printing of groups
abbrev pub EndsPrinting : FlowFault → Type 0
EndsPrinting fault = (fault ≡ flow.WriteFault) ⊎ (fault ≡ flow.OutOfMemory)
