-- A record that comes from a source, and its canonical text that goes to a sink.
use Rattle.std.specs.Prelude.{◌≡◌, ◌≢◌, ◌⊎◌, ℕ, ◌+◌, ◌*◌, ◌≤◌, ◌==◌, ◌&&◌, ◌||◌, Bool, true, nat_lt, if◌then◌else◌, List, ◌++◌, length, take, Option, Result, Ok, Err, MatchResult}
use Rattle.std.specs.Io.KnownBytes.{Appends, Consumes, IsAtEnd}
use Rattle.record_game.specs.declared.fault.Refusal.{Refusal}
use Rattle.record_game.specs.declared.fault.Why.{Why}
use Rattle.record_game.specs.declared.fault.Why.TheVariants as why
use Rattle.csa_record.specs.declared.flow.FlowFault.{FlowFault}
use Rattle.csa_record.specs.declared.flow.FlowFault.TheVariants as flow
use Rattle.record_game.specs.Canon.{canon}
use Rattle.record_game.specs.Game.{Game}
use Rattle.record_game.specs.Closed.{AreFaultless}
use Rattle.record_game.specs.Refused.{Refused, FaultlessTo}
use Rattle.record_game.specs.Tells.{Tells}
use Rattle.sha2.specs.Sha256.{sha256}

-- the most bytes of a read, and how often a source is read before its end must have been reached
abbrev pub longest_piece : ℕ
longest_piece = 4096

abbrev pub most_reads : ℕ
most_reads = 16777216

-- it has failed once more if there was an error, and otherwise not
abbrev pub CountsErrors : {T E : Type 0} → ℕ → ℕ → Result T E → Type 0
CountsErrors old new r = MatchResult r (λ _. new ≡ old) (λ _. new ≡ old + 1)

-- a read that gives nothing although there is room reports the end
abbrev pub after_read : Bool → ℕ → List ℕ → Bool
after_read old taken buffer = old || (taken == 0 && nat_lt 0 (length buffer))

abbrev pub MarksEnd : {E : Type 0} → Bool → Bool → Result ℕ E → List ℕ → Type 0
MarksEnd old new r buffer =
    MatchResult r (λ taken. new ≡ after_read old taken buffer) (λ _. new ≡ old)

-- a write that takes none of some bytes is a failure too
abbrev pub after_write : ℕ → ℕ → List ℕ → ℕ
after_write old taken piece = if taken == 0 && nat_lt 0 (length piece) then old + 1 else old

abbrev pub CountsWrites : {E : Type 0} → ℕ → ℕ → Result ℕ E → List ℕ → Type 0
CountsWrites old new r piece =
    MatchResult r (λ taken. new ≡ after_write old taken piece) (λ _. new ≡ old + 1)

-- the known bytes grew by a front of the text, which may be empty or the whole text
abbrev pub AppendsFront : Option (List ℕ) → Option (List ℕ) → List ℕ → Type 0
AppendsFront old new text = (n : ℕ) × (n ≤ length text) × Appends old new (take n text)

abbrev pub fault_by : Why → Refusal → FlowFault
fault_by (why.Text fault) r = flow.Refused r
fault_by (why.Order fault) r = flow.Refused r
fault_by (why.Start fault) r = flow.Refused r
fault_by (why.Rule rule) r = flow.Refused r
fault_by why.OutOfMemory r = flow.OutOfMemory
fault_by why.Failed r = flow.Refused r

-- lack of memory is not a refusal of the record
abbrev pub fault_of : Refusal → FlowFault
fault_of r = fault_by r.why r

-- the source gave bytes that contain this game, and is at its end
pub record GaveGame (old new : Option (List ℕ)) (g : Game) : Type 0 where
  pub bytes : List ℕ
  pub given : Consumes old new bytes
  pub ended : IsAtEnd new
  pub few : length bytes ≤ longest_piece * most_reads
  pub tells : Tells bytes g

-- bytes with this front are refused in this way, whatever follows it; or the source is at its end,
-- which a read has shown, and they are refused there
abbrev pub IsRefusedFrom : Option (List ℕ) → Bool → List ℕ → Refusal → Type 0
IsRefusedFrom new ended bytes r =
    ((more : List ℕ) → Refused (bytes ++ more) r.number r.offset r.why)
    ⊎ (IsAtEnd new × (ended ≡ true) × Refused bytes r.number r.offset r.why)

-- but for a last piece of at most 4,096 bytes, no closed statement of these bytes has a fault
pub record StopsAt (bytes : List ℕ) : Type 0 where
  pub front : List ℕ
  pub piece : List ℕ
  pub whole : bytes ≡ front ++ piece
  pub short : length piece ≤ longest_piece
  pub faultless : AreFaultless front

-- the source gave bytes that are refused in this way
pub record IsRefusal (old new : Option (List ℕ)) (ended : Bool) (r : Refusal) : Type 0 where
  pub bytes : List ℕ
  pub given : Consumes old new bytes
  pub stopped : StopsAt bytes
  pub refused : IsRefusedFrom new ended bytes r
  pub no_lack : r.why ≢ why.OutOfMemory
  pub first : r.why ≢ why.Failed

-- the statements up to this one have no fault, whatever follows these bytes; or the source is at
-- its end, which a read has shown, and they have none there
abbrev pub IsFaultlessFrom : Option (List ℕ) → Bool → List ℕ → ℕ → ℕ → Type 0
IsFaultlessFrom new ended bytes number offset =
    ((more : List ℕ) → FaultlessTo (bytes ++ more) number offset)
    ⊎ (IsAtEnd new × (ended ≡ true) × FaultlessTo bytes number offset)

-- the source gave bytes whose statements up to some offset have no fault
pub record IsFaultless (old new : Option (List ℕ)) (ended : Bool) : Type 0 where
  pub bytes : List ℕ
  pub given : Consumes old new bytes
  pub number : ℕ
  pub offset : ℕ
  pub faultless : IsFaultlessFrom new ended bytes number offset
  pub stopped : StopsAt bytes

-- the source gave at least so many bytes
pub record GaveMany (old new : Option (List ℕ)) (many : ℕ) : Type 0 where
  pub bytes : List ℕ
  pub given : Consumes old new bytes
  pub least : many ≤ length bytes

-- the source failed once; or it did not fail, and its end was not reached after so many bytes
abbrev pub FailsRead : Option (List ℕ) → Option (List ℕ) → ℕ → ℕ → Type 0
FailsRead old new before after = (after ≡ before + 1)
    ⊎ ((after ≡ before) × GaveMany old new most_reads)

-- what the source gave has no fault: so far, or to its end, where it contains a game
abbrev pub IsOutOfMemory : Option (List ℕ) → Option (List ℕ) → Bool → Type 0
IsOutOfMemory old new ended = IsFaultless old new ended
    ⊎ ((ended ≡ true) × ((g : Game) × GaveGame old new g))

-- what the source gave if no record was read, and how often it had failed before and after
abbrev pub IsReadFault : Option (List ℕ) → Option (List ℕ) → Bool → ℕ → ℕ → FlowFault → Type 0
IsReadFault old new ended before after (flow.Refused r) =
    IsRefusal old new ended r × (after ≡ before)
IsReadFault old new ended before after flow.ReadFault = FailsRead old new before after
IsReadFault old new ended before after flow.WriteFault = ⊥
IsReadFault old new ended before after flow.OutOfMemory =
    IsFaultless old new ended × (after ≡ before)

-- what the source gave, and what was read of it
abbrev pub ReadsRecord : Option (List ℕ) → Option (List ℕ) → Bool → ℕ → ℕ → Result Game FlowFault
    → Type 0
ReadsRecord old new ended before after (Ok g) =
    GaveGame old new g × (ended ≡ true) × (after ≡ before)
ReadsRecord old new ended before after (Err fault) = IsReadFault old new ended before after fault

-- the source gave a game, and this is the SHA-256 of its canonical text
abbrev pub IsDigest : Option (List ℕ) → Option (List ℕ) → List ℕ → Type 0
IsDigest old new digest = (g : Game) × GaveGame old new g × (digest ≡ sha256 (canon g))

-- the source gave a game, of whose canonical text the sink took all and nothing else
pub record IsNormal (old new held_old held_new : Option (List ℕ)) : Type 0 where
  pub game : Game
  pub stated : GaveGame old new game
  pub taken : Appends held_old held_new (canon game)

-- the source gave a game, of whose canonical text the sink took a front and nothing else
pub record IsCutShort (old new held_old held_new : Option (List ℕ)) : Type 0 where
  pub game : Game
  pub stated : GaveGame old new game
  pub taken : AppendsFront held_old held_new (canon game)
