-- For private functions: what one step of reading a source does, and what its faults say.
-- A reader of the public contracts may skip this file.
use Rattle.std.specs.Prelude.{◌≡◌, ℕ, ◌+◌, ◌*◌, ◌<◌, ◌≤◌, Bool, true, List, [], ◌++◌, length, Option, Result, Ok, Err}
use Rattle.std.specs.Io.KnownBytes.{Keeps, Consumes, IsAtEnd}
use Rattle.csa_record.specs.declared.flow.Fed.{Fed}
use Rattle.csa_record.specs.declared.flow.Fed.TheVariants.{Piece, End}
use Rattle.csa_record.specs.declared.flow.FlowFault.{FlowFault}
use Rattle.csa_record.specs.declared.flow.FlowFault.TheVariants as flow
use Rattle.record_game.specs.Canon.{canon}
use Rattle.record_game.specs.Game.{Game}
use Rattle.csa_record.specs.RecordReading.{RecordReading, HasRead}
use Rattle.csa_record.specs.Flow.{longest_piece, most_reads, GaveGame, IsRefusal, FailsRead, IsOutOfMemory, IsReadFault, IsCutShort}

-- a reader of these bytes was fed the next piece of the source; or the source is at its end; or the
-- reading stops here
abbrev pub FeedsNext : List ℕ → Option (List ℕ) → Option (List ℕ) → Bool → ℕ → ℕ
    → Result Fed FlowFault → RecordReading → Type 0
FeedsNext bytes old new ended before after (Ok Piece) reader =
    (piece : List ℕ) × Consumes old new piece × (0 < length piece) × (length piece ≤ longest_piece)
    × (after ≡ before) × HasRead (bytes ++ piece) reader
FeedsNext bytes old new ended before after (Ok End) reader = Consumes old new [] × IsAtEnd new
    × (ended ≡ true) × (after ≡ before) × HasRead bytes reader
FeedsNext bytes old new ended before after (Err fault) reader =
    (start : Option (List ℕ)) → Consumes start old bytes
    → IsReadFault start new ended before after fault

-- a reader was fed what the source gave in so many reads
pub record IsFed (old new : Option (List ℕ)) (before after reads : ℕ)
    (reader : RecordReading) : Type 0 where
  pub bytes : List ℕ
  pub given : Consumes old new bytes
  pub quiet : after ≡ before
  pub least : reads ≤ length bytes
  pub most : length bytes ≤ longest_piece * reads
  pub read : HasRead bytes reader

-- a reader was fed all that the source gave up to its end
pub record IsFedAll (old new : Option (List ℕ)) (ended : Bool) (before after : ℕ)
    (reader : RecordReading) : Type 0 where
  pub bytes : List ℕ
  pub given : Consumes old new bytes
  pub at_end : IsAtEnd new
  pub seen : ended ≡ true
  pub few : length bytes ≤ longest_piece * most_reads
  pub quiet : after ≡ before
  pub read : HasRead bytes reader

-- the source gave a game, and this is its canonical text; or no game was read, or memory was
-- lacking
abbrev pub IsTextFault : Option (List ℕ) → Option (List ℕ) → Bool → ℕ → ℕ → FlowFault → Type 0
IsTextFault old new ended before after (flow.Refused r) =
    IsRefusal old new ended r × (after ≡ before)
IsTextFault old new ended before after flow.ReadFault = FailsRead old new before after
IsTextFault old new ended before after flow.WriteFault = ⊥
IsTextFault old new ended before after flow.OutOfMemory =
    IsOutOfMemory old new ended × (after ≡ before)

abbrev pub TellsText : Option (List ℕ) → Option (List ℕ) → Bool → ℕ → ℕ → List ℕ → Type 0
TellsText old new ended before after text = (g : Game) × GaveGame old new g × (text ≡ canon g)
    × (ended ≡ true) × (after ≡ before)

-- what was read and written if the text was not written whole, and how often the source and the
-- sink had failed before and after
abbrev pub IsFlowFault : Option (List ℕ) → Option (List ℕ) → Bool → Option (List ℕ)
    → Option (List ℕ) → ℕ → ℕ → ℕ → ℕ → FlowFault → Type 0
IsFlowFault old new ended held_old held_new before after sink_before sink_after (flow.Refused r) =
    IsRefusal old new ended r × (after ≡ before) × Keeps held_old held_new
    × (sink_after ≡ sink_before)
IsFlowFault old new ended held_old held_new before after sink_before sink_after flow.ReadFault =
    FailsRead old new before after × Keeps held_old held_new × (sink_after ≡ sink_before)
IsFlowFault old new ended held_old held_new before after sink_before sink_after flow.WriteFault =
    IsCutShort old new held_old held_new × (ended ≡ true) × (after ≡ before)
    × (sink_after ≡ sink_before + 1)
IsFlowFault old new ended held_old held_new before after sink_before sink_after flow.OutOfMemory =
    IsOutOfMemory old new ended × (after ≡ before) × Keeps held_old held_new
    × (sink_after ≡ sink_before)
