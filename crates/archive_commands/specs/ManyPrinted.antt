-- For private functions: what is printed about many files, one after another, as far as it is
-- known.
-- A reader of the public contracts may skip this file.
use Rattle.std.specs.Prelude.{◌≡◌, ◌⊎◌, ℕ, ◌+◌, List, [], ◌∷◌, Option, Some, Err}
use Rattle.std.specs.Io.KnownBytes.{Appends}
use Rattle.std.specs.Str.{IsUtf8}
use Rattle.csa_record.specs.declared.flow.FlowFault.{FlowFault}
use Rattle.csa_record.specs.declared.flow.FlowFault.TheVariants.{Refused, ReadFault, WriteFault, OutOfMemory}
use Rattle.archive_commands.specs.Lines.{AreRefusedLines, AreUnreadableLines, HasLine, IsLineOf}
use Rattle.record_commands.specs.Reports.{GetsRecord}
use Rattle.archive_commands.specs.declared.lines.LineForm.{LineForm}
use Rattle.archive_commands.specs.declared.many.Tally.{Tally}
use Rattle.record_game.specs.declared.fault.Refusal.{Refusal}

abbrev pub no_file : Tally
no_file = record { accepted = 0; refused = 0; unreadable = 0 }

-- what was printed on standard output and on standard error, and how many files there were
pub record Printed : Type 0 where
  pub out : Option (List ℕ)
  pub err : Option (List ℕ)
  pub tally : Tally

abbrev pub printed_of : Option (List ℕ) → Option (List ℕ) → Tally → Printed
printed_of out err tally = record { out = out; err = err; tally = tally }

-- the file is accepted, refused, or cannot be read, as one whose path is not UTF-8; its lines were
-- printed, and it was counted
pub data PrintsFile {Input : Type 0} (Unopened : Option (List ℕ) → Type 0)
    (Opened : Option (List ℕ) → Input → Type 0) (bytes : Input → Option (List ℕ))
    (form : LineForm) (file : List ℕ) (old new : Printed) : Type 0 where
  accepted : (line : List ℕ)
      → HasLine (Unopened (Some file)) (Opened (Some file)) bytes (IsLineOf form file) line
      → Appends old.out new.out line → new.err ≡ old.err
      → new.tally ≡ record old.tally { accepted = old.tally.accepted + 1 }
      → PrintsFile Unopened Opened bytes form file old new
  refused : (r : Refusal) (text : List ℕ)
      → GetsRecord (Unopened (Some file)) (Opened (Some file)) bytes (Err (Refused r))
      → AreRefusedLines file text → new.out ≡ old.out → Appends old.err new.err text
      → new.tally ≡ record old.tally { refused = old.tally.refused + 1 }
      → PrintsFile Unopened Opened bytes form file old new
  unreadable : (text : List ℕ)
      → GetsRecord (Unopened (Some file)) (Opened (Some file)) bytes (Err ReadFault)
      → AreUnreadableLines file text → new.out ≡ old.out → Appends old.err new.err text
      → new.tally ≡ record old.tally { unreadable = old.tally.unreadable + 1 }
      → PrintsFile Unopened Opened bytes form file old new
  no_text : (name text : List ℕ) → (IsUtf8 file → ⊥)
      → AreUnreadableLines name text → new.out ≡ old.out → Appends old.err new.err text
      → new.tally ≡ record old.tally { unreadable = old.tally.unreadable + 1 }
      → PrintsFile Unopened Opened bytes form file old new

-- all of them in turn
abbrev pub PrintsAll : {Input : Type 0} → (Option (List ℕ) → Type 0)
    → (Option (List ℕ) → Input → Type 0) → (Input → Option (List ℕ)) → LineForm → List (List ℕ)
    → Printed → Printed → Type 0
PrintsAll Unopened Opened bytes form [] old new = new ≡ old
PrintsAll Unopened Opened bytes form (file ∷ files) old new = (mid : Printed)
    × PrintsFile Unopened Opened bytes form file old mid
    × PrintsAll Unopened Opened bytes form files mid new

-- standard output did not take the line of an accepted file, or there is no memory
abbrev pub StopsAt : {Input : Type 0} → (Option (List ℕ) → Type 0)
    → (Option (List ℕ) → Input → Type 0) → (Input → Option (List ℕ)) → LineForm → List ℕ
    → Option (List ℕ) → Option (List ℕ) → Option (List ℕ) → Option (List ℕ) → FlowFault → Type 0
StopsAt Unopened Opened bytes form file out err out' err' WriteFault = (line : List ℕ)
    × HasLine (Unopened (Some file)) (Opened (Some file)) bytes (IsLineOf form file) line
    × (err' ≡ err)
StopsAt Unopened Opened bytes form file out err out' err' OutOfMemory =
    (out' ≡ out) × (err' ≡ err)
StopsAt Unopened Opened bytes form file out err out' err' (Refused r) = ⊥
StopsAt Unopened Opened bytes form file out err out' err' ReadFault = ⊥

-- the lines of the files before some file were printed, and it stops at that
abbrev pub StopsAmong : {Input : Type 0} → (Option (List ℕ) → Type 0)
    → (Option (List ℕ) → Input → Type 0) → (Input → Option (List ℕ)) → LineForm → List (List ℕ)
    → Printed → Option (List ℕ) → Option (List ℕ) → FlowFault → Type 0
StopsAmong Unopened Opened bytes form [] old out err fault = ⊥
StopsAmong Unopened Opened bytes form (file ∷ files) old out err fault =
    StopsAt Unopened Opened bytes form file old.out old.err out err fault
    ⊎ ((mid : Printed) × PrintsFile Unopened Opened bytes form file old mid
    × StopsAmong Unopened Opened bytes form files mid out err fault)
