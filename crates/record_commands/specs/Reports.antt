-- What a command has read, and why it printed no text, as far as bytes are known.
use Rattle.std.specs.Prelude.{◌≡◌, ◌⊎◌, ℕ, List, Bool, Option, Result, Ok, Err}
use Rattle.csa_record.specs.Flow.{ReadsRecord}
use Rattle.csa_record.specs.declared.flow.FlowFault.{FlowFault}
use Rattle.csa_record.specs.declared.flow.FlowFault.TheVariants.{Refused, ReadFault, WriteFault, OutOfMemory}
use Rattle.record_game.specs.Game.{Game}

-- the input could not be opened, or there was no memory to open it; or it was opened, and this was
-- read of its record
pub data GetsRecord {Input : Type 0} (Unopened : Type 0) (Opened : Input → Type 0)
    (bytes : Input → Option (List ℕ)) (result : Result Game FlowFault) : Type 0 where
  unopened : Unopened → result ≡ Err ReadFault → GetsRecord Unopened Opened bytes result
  no_memory : result ≡ Err OutOfMemory → GetsRecord Unopened Opened bytes result
  read : (input after : Input) (ended : Bool) (failures : ℕ) → Opened input
      → ReadsRecord (bytes input) (bytes after) ended 0 failures result
      → GetsRecord Unopened Opened bytes result

-- why no text was printed about what was read, or not all of it
abbrev pub FailsToReport : (Result Game FlowFault → Type 0) → (Game → List ℕ → Type 0)
    → FlowFault → Type 0
FailsToReport Reads Fits (Refused r) = Reads (Err (Refused r))
FailsToReport Reads Fits ReadFault = Reads (Err ReadFault)
FailsToReport Reads Fits WriteFault =
    (game : Game) × (text : List ℕ) × Reads (Ok game) × Fits game text
FailsToReport Reads Fits OutOfMemory =
    Reads (Err OutOfMemory) ⊎ ((game : Game) × Reads (Ok game))
