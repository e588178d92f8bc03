-- For private functions and fields of `Incoming`: what the bytes of a piece come to.
-- A reader of the public contracts may skip this file.
use Rattle.std.specs.Prelude.{◌≡◌, ℕ, ◌≤◌, false, List, length, Option, Some, None, Result, Ok, Err, ⊤}
use Rattle.csa_cutting.specs.Lines.{HasNoLineEnd}
use Rattle.csa_cutting.specs.LineCutting.{LineCutting}
use Rattle.shogi_board.specs.declared.memory.OutOfMemory.{OutOfMemory}
use Rattle.record_commands.specs.declared.incoming.LineEvent.{LineEvent}
use Rattle.record_commands.specs.declared.incoming.LineEvent.TheVariants.{Line, End, Long, Failed}
use Rattle.record_commands.specs.declared.incoming.ReadStop.{ReadStop}
use Rattle.record_commands.specs.declared.incoming.ReadStop.TheVariants as stops
use Rattle.record_commands.specs.Incoming.{GivesLine, GivesNoLine, GivesEnd, GivesLongLine}

-- what the bytes up to the next line end, or those that are there, come to; no event if no line
-- ended
abbrev pub PieceGives : Option (List ℕ) → Option (List ℕ) → List ℕ → Option LineEvent → Type 0
PieceGives old new line None = GivesNoLine old new
PieceGives old new line (Some Line) = GivesLine old new line × (length line ≤ 65536)
PieceGives old new line (Some End) = GivesEnd old new
PieceGives old new line (Some Long) = GivesLongLine old new
PieceGives old new line (Some Failed) = GivesNoLine old new

-- the event of a reader that stops
abbrev pub event_of : ReadStop → Result (Option LineEvent) OutOfMemory
event_of stops.TooLong = Ok (Some Long)
event_of stops.Failed = Ok (Some Failed)
event_of stops.OutOfMemory = Err (record {})

-- what the bytes were when it stopped
abbrev pub PieceStops : Option (List ℕ) → Option (List ℕ) → ReadStop → Type 0
PieceStops old new stops.TooLong = GivesLongLine old new
PieceStops old new stops.Failed = GivesNoLine old new
PieceStops old new stops.OutOfMemory = ⊤

-- the cutter of a reader that goes on
pub record IsReading (cutter : LineCutting) : Type 0 where
  pub limit : cutter.limit ≡ 65536
  pub run : HasNoLineEnd cutter.held
  pub short : length cutter.held ≤ 65536
  pub sound : cutter.failed ≡ false
