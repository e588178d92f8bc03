-- Whether bytes, if they are known, are one line, and what becomes of it.
use Rattle.std.specs.Prelude.{◌≡◌, ◌⊎◌, ℕ, ◌≤◌, List, length, Option, Some, ⊤}
use Rattle.shogi_rules.specs.Positions.{Played}
use Rattle.usi_text.specs.Lines.{LineFault, UsiLine}
use Rattle.usi_text.specs.Words.{words}
use Rattle.usi_text.specs.declared.fault.UsiFault.{UsiFault}
use Rattle.usi_text.specs.declared.fault.UsiFault.TheVariants.{BadLine}
use Rattle.record_commands.specs.Incoming.{Coming, GivesEnd, GivesLine, GivesLongLine, GivesNoLine}
use Rattle.record_commands.specs.declared.fault.PositionLineFault.{PositionLineFault}
use Rattle.record_commands.specs.declared.fault.PositionLineFault.TheVariants.{Refused, TooLong, Read, Write, OutOfMemory}
use Rattle.record_commands.specs.declared.incoming.ReadStop.TheVariants.{Failed}

-- only the end comes
abbrev pub HasNoLine : Option (List ℕ) → Type 0
HasNoLine bytes = (none : Option (List ℕ)) × GivesEnd bytes none

-- this line comes, of at most 65,536 bytes, and then the end
abbrev pub IsOneLine : Option (List ℕ) → List ℕ → Type 0
IsOneLine bytes line =
    (rest : Option (List ℕ)) × GivesLine bytes rest line
    × (length line ≤ 65536) × HasNoLine rest

-- two lines come, each of at most 65,536 bytes
abbrev pub HasTwoLines : Option (List ℕ) → Type 0
HasTwoLines bytes =
    (first second : List ℕ) × (rest last : Option (List ℕ))
    × GivesLine bytes rest first × (length first ≤ 65536)
    × GivesLine rest last second × (length second ≤ 65536)

-- the first line that comes, or the second, has more than 65,536 bytes
abbrev pub HasLongLine : Option (List ℕ) → Type 0
HasLongLine bytes =
    ((last : Option (List ℕ)) × GivesLongLine bytes last)
    ⊎ ((first : List ℕ) × (rest last : Option (List ℕ))
    × GivesLine bytes rest first × GivesLongLine rest last)

-- at most one line came, and then a read failed
abbrev pub BreaksOff : Option (List ℕ) → Coming → Type 0
BreaksOff bytes after = (after.stop ≡ Some Failed)
    × (GivesNoLine bytes after.bytes
    ⊎ ((line : List ℕ) × (rest : Option (List ℕ))
    × GivesLine bytes rest line × GivesNoLine rest after.bytes))

-- there is no line, or there are two; or there is one, and this is its first fault
abbrev pub RefusesLine : Option (List ℕ) → UsiFault → Type 0
RefusesLine bytes fault = ((fault ≡ BadLine) × (HasNoLine bytes ⊎ HasTwoLines bytes))
    ⊎ ((line : List ℕ) × IsOneLine bytes line × LineFault (words line) fault)

-- an input was opened, and this holds of its bytes
abbrev pub OfOpened : {Input : Type 0} → (Input → Type 0) → (Input → Option (List ℕ))
    → (Option (List ℕ) → Type 0) → Type 0
OfOpened {Input} Opened bytes P = (input : Input) × Opened input × P (bytes input)

-- the bytes are one line, which is the position line of these moves
abbrev pub IsPositionLine : Played → Option (List ℕ) → Type 0
IsPositionLine line bytes =
    (text : List ℕ) × IsOneLine bytes text × UsiLine (words text) line.start line.moves

-- why no text was printed, or not all of it
abbrev pub FailsToConvert : {Input : Type 0} → Type 0 → (Input → Type 0)
    → (Input → Option (List ℕ)) → PositionLineFault → Type 0
FailsToConvert Unopened Opened bytes (Refused fault) =
    OfOpened Opened bytes (λ known. RefusesLine known fault)
FailsToConvert Unopened Opened bytes TooLong = OfOpened Opened bytes HasLongLine
FailsToConvert Unopened Opened bytes Read = Unopened
    ⊎ OfOpened Opened bytes (λ known. (after : Coming) × BreaksOff known after)
FailsToConvert Unopened Opened bytes Write =
    (line : Played) × OfOpened Opened bytes (IsPositionLine line)
FailsToConvert Unopened Opened bytes OutOfMemory = ⊤
