-- The lines of a reader.
use Rattle.std.specs.Prelude.{◌≡◌, ℕ, ◌<◌, List, [], ◌∷◌, length, Option, Some, None, IfSome}
use Rattle.std.specs.Io.KnownBytes.{Consumes}
use Rattle.csa_cutting.specs.Lines.{Lines}
use Rattle.csa_cutting.specs.LineCutting.{BeginsTooLong}
use Rattle.csa_cutting.specs.declared.line.LineFault.{LineFault}
use Rattle.csa_cutting.specs.declared.line.LineFault.TheVariants as faults
use Rattle.record_commands.specs.declared.incoming.LineEvent.{LineEvent}
use Rattle.record_commands.specs.declared.incoming.LineEvent.TheVariants.{Line, End, Long, Failed}
use Rattle.record_commands.specs.declared.incoming.ReadStop.{ReadStop}
use Rattle.record_commands.specs.declared.incoming.ReadStop.TheVariants as stops

-- the bytes that will still come, those of an unfinished line first, if they are known; the last
-- line; and why no more is read, if so
pub record Coming : Type 0 where
  pub bytes : Option (List ℕ)
  pub line : List ℕ
  pub stop : Option ReadStop

-- why no more is read after this event, if so; what stopped the reader before still does
abbrev pub stop_after : Option ReadStop → LineEvent → Option ReadStop
stop_after (Some stop) event = Some stop
stop_after None Line = None
stop_after None End = None
stop_after None Long = Some stops.TooLong
stop_after None Failed = Some stops.Failed

-- the next line, followed by a line end or the end
pub data GivesLine (old new : Option (List ℕ)) (line : List ℕ) : Type 0 where
  ended : (front : List ℕ) → Consumes old new front
      → Lines front (line ∷ []) [] → GivesLine old new line
  last : (front : List ℕ) → Consumes old new front → IfSome old (λ bytes. bytes ≡ front)
      → Lines front [] line → 0 < length line → GivesLine old new line

-- no line, only line ends
abbrev pub GivesNoLine : Option (List ℕ) → Option (List ℕ) → Type 0
GivesNoLine old new = (front : List ℕ) × Consumes old new front × Lines front [] []

-- only line ends, and then the end, if the bytes are known
abbrev pub GivesEnd : Option (List ℕ) → Option (List ℕ) → Type 0
GivesEnd old new =
    (front : List ℕ) × Consumes old new front × Lines front [] []
    × IfSome old (λ bytes. bytes ≡ front)

-- a line of more than 65,536 bytes comes next, and is not taken
abbrev pub GivesLongLine : Option (List ℕ) → Option (List ℕ) → Type 0
GivesLongLine old new = GivesNoLine old new × IfSome old (BeginsTooLong 65536)

-- why no more is read after a fault of the cutter
abbrev pub stop_of : LineFault → ReadStop
stop_of faults.TooLong = stops.TooLong
stop_of faults.OutOfMemory = stops.OutOfMemory
