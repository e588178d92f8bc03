-- A reader of a record that arrives in pieces.
use Rattle.std.specs.Prelude.{◌≡◌, ℕ, List, [], ◌∷◌, Option, Some, None}
use Rattle.std.specs.Borrow.{Bor}
use Rattle.csa_cutting.specs.Cut.{TextUnit}
use Rattle.csa_cutting.specs.PieceCutting.{PieceCutting}
use Rattle.csa_cutting.specs.TooLong.{HasCutOf}
use Rattle.csa_text.specs.Saying.{Saying}
use Rattle.csa_record.specs.declared.record_reader.Failing.{Failing}
use Rattle.record_game.specs.Keeping.{Kept, HasKept}
use Rattle.record_game.specs.Refused.{Faultless}

-- the cutter of its pieces, what is kept of their statements, and where it was refused
pub record RecordReading : Type 0 where
  pub cutter : PieceCutting
  pub kept : Kept
  pub failing : Option Failing

-- the bytes of the pieces that were not refused
abbrev pub fed_by : PieceCutting → Option Failing → ℕ
fed_by p None = p.fed
fed_by p (Some f) = f.fed

abbrev pub fed_of : RecordReading → ℕ
fed_of r = fed_by r.cutter r.failing

-- the cutter has yielded the closed statements of these bytes; none has a fault; and this is kept
-- of their items
pub record HasTaken (source : List ℕ) (p : PieceCutting) (k : Kept) : Type 0 where
  pub closed : List TextUnit
  pub sayings : List Saying
  pub cut : HasCutOf source p closed
  pub faultless : Faultless [] closed sayings
  pub keeps : HasKept sayings k

-- the reader was fed these bytes, whose closed statements have no fault
pub record HasRead (source : List ℕ) (r : RecordReading) : Type 0 where
  pub going : r.failing ≡ None
  pub taken : HasTaken source r.cutter r.kept

-- the bytes of each piece
abbrev pub bytes_of : List (Bor (List ℕ)) → List (List ℕ)
bytes_of [] = []
bytes_of (piece ∷ pieces) = piece.now ∷ bytes_of pieces
