-- For private functions: what one step of a reader does.
-- A reader of the public contracts may skip this file.
use Rattle.std.specs.Prelude.{◌≡◌, ◌≢◌, ◌⊎◌, ℕ, ◌+◌, ◌<◌, ◌≤◌, List, [], ◌++◌, length, take, Option, Some, None, Result, Ok, Err, IfOk}
use Rattle.csa_cutting.specs.Cut.{TextUnit, IsCut}
use Rattle.csa_cutting.specs.PieceCutting.{PieceCutting}
use Rattle.csa_text.specs.Saying.{Saying}
use Rattle.csa_record.specs.declared.record_reader.Failing.{Failing}
use Rattle.record_game.specs.declared.fault.Refusal.{Refusal}
use Rattle.record_game.specs.declared.fault.Why.TheVariants.{OutOfMemory}
use Rattle.record_game.specs.Keeping.{Kept, HasKept}
use Rattle.record_game.specs.Refused.{Faultless, Refused, FaultlessTo}
use Rattle.csa_record.specs.RecordReading.{RecordReading, HasRead}

-- a reader of these parts was fed these bytes
abbrev pub IsRead : List ℕ → PieceCutting → Kept → Option Failing → Type 0
IsRead source p k failing = HasRead source (record { cutter = p; kept = k; failing = failing })

-- refused for its first fault; or an allocation failed, and no statement up to there has a fault
abbrev pub IsRefusedBy : List ℕ → Refusal → Type 0
IsRefusedBy source r =
    ((r.why ≢ OutOfMemory) × Refused source r.number r.offset r.why)
    ⊎ ((r.why ≡ OutOfMemory) × FaultlessTo source r.number r.offset)

-- so many bytes of the piece were used, and the cutter has moved on by as many
abbrev pub AreUsed : List ℕ → PieceCutting → PieceCutting → ℕ → Type 0
AreUsed piece old new used = (0 < used) × (used ≤ length piece) × (new.fed ≡ old.fed + used)

-- the next bytes of the piece were taken; or the bytes with that piece are refused, whatever
-- follows them
abbrev pub NextTaken : List ℕ → List ℕ → Result ℕ Refusal → RecordReading → Type 0
NextTaken source piece (Ok used) new = HasRead (source ++ take used piece) new
NextTaken source piece (Err r) new = (more : List ℕ) → IsRefusedBy ((source ++ piece) ++ more) r

-- the next bytes of the piece were taken or refused, as above; or nothing was changed
abbrev pub MayTakeNext : RecordReading → List ℕ → Option (Result ℕ Refusal) → RecordReading → Type 0
MayTakeNext old piece None new = new ≡ old
MayTakeNext old piece (Some taken) new = IfOk taken (AreUsed piece old.cutter new.cutter)
    × ((source : List ℕ) → HasRead source old → NextTaken source piece taken new)

-- the statements of these bytes, none of which has a fault, and what is kept of their items
pub record HasAll (source : List ℕ) (p : PieceCutting) (k : Kept) : Type 0 where
  pub statements : List TextUnit
  pub sayings : List Saying
  pub cut : IsCut source statements
  pub faultless : Faultless [] statements sayings
  pub keeps : HasKept sayings k
  pub counted : p.number ≡ length statements

-- the last statement was taken, if one was unfinished; or the bytes are refused
abbrev pub LastTaken : List ℕ → Result (Unit {0}) Refusal → PieceCutting → Kept → Type 0
LastTaken source (Ok u) p k = HasAll source p k
LastTaken source (Err r) p k = IsRefusedBy source r
