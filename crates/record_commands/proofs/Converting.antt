-- Why a position line gave no record.
use Rattle.std.proofs.Common.{◌≡◌, ◌≢◌, ◌⊎◌, inl, inr, ◌∙◌, ap, refl, sym, subst, ℕ, List, Option, None, Result, Ok, Err, IfErr, IsErrAnd}
use Rattle.std.specs.Prelude.{IsErrOf}
use Rattle.hash_comments.specs.declared.comments.HashLines.{HashLines}
use Rattle.usi_text.specs.Lines.{LineFault}
use Rattle.usi_text.specs.Words.{words}
use Rattle.usi_text.specs.declared.fault.UsiFault.{UsiFault}
use Rattle.usi_text.specs.declared.fault.UsiFault.TheVariants as usi
use Rattle.record_commands.specs.Faults.{IsLineFaultOf, line_fault_of}
use Rattle.record_commands.specs.Incoming.{Coming}
use Rattle.record_commands.specs.OneLine.{BreaksOff, FailsToConvert, HasLongLine, HasNoLine, HasTwoLines, IsOneLine, RefusesLine}
use Rattle.record_commands.specs.declared.fault.PositionLineFault.{PositionLineFault}
use Rattle.record_commands.specs.declared.fault.PositionLineFault.TheVariants as line
use Rattle.record_commands.specs.declared.fault.ReadFault.{ReadFault}
use Rattle.record_commands.specs.declared.fault.ReadFault.TheVariants as reading

-- what the exit of a `?` returns
pub returned : {T E : Type 0} (P Q : E → Type 0) (r : Result T E) → IsErrAnd r Q → ((fault : E) → Q fault → P fault) → IfErr r P
returned P Q (Ok x) gives holds = tt
returned P Q (Err fault) gives holds = holds fault gives

-- nothing was opened
pub unopened : {Input : Type 0} (Unopened : Type 0) (Opened : Input → Type 0) (bytes : Input → Option (List ℕ)) (read : ReadFault) (fault : PositionLineFault)
    → (read ≡ reading.Failed → Unopened) → fault ≡ line_fault_of read → FailsToConvert Unopened Opened bytes fault
unopened U Opened bytes reading.Failed fault none is = subst (FailsToConvert U Opened bytes) (sym is) (inl (none refl))
unopened U Opened bytes reading.OutOfMemory fault none is = subst (FailsToConvert U Opened bytes) (sym is) tt

-- what was opened has not one line
pub no_one_line : {T Input : Type 0} (Unopened : Type 0) (Opened : Input → Type 0) (bytes : Input → Option (List ℕ)) (input : Input) (before after : Coming)
    (answer : Result T PositionLineFault) (fault : PositionLineFault) → answer ≡ Err fault → Opened input → before.bytes ≡ bytes input → before.stop ≡ None
    → (IsErrOf answer (line.Refused usi.BadLine) → HasNoLine before.bytes ⊎ HasTwoLines before.bytes)
    → (IsErrOf answer line.TooLong → HasLongLine before.bytes)
    → (before.stop ≡ None → IsErrOf answer line.Read → BreaksOff before.bytes after)
    → ((refused : UsiFault) → IsErrOf answer (line.Refused refused) → refused ≡ usi.BadLine)
    → (IsErrOf answer line.Write → ⊥) → FailsToConvert Unopened Opened bytes fault
no_one_line U Opened bytes input before after answer (line.Refused f) was opened same going bad long read refused unwritten =
    let is : f ≡ usi.BadLine = refused f was in
    (input, opened, inl (is, subst (λ b. HasNoLine b ⊎ HasTwoLines b) same (bad (was ∙ ap (λ x. Err (line.Refused x)) is))))
no_one_line U Opened bytes input before after answer line.TooLong was opened same going bad long read refused unwritten =
    (input, opened, subst HasLongLine same (long was))
no_one_line U Opened bytes input before after answer line.Read was opened same going bad long read refused unwritten =
    inr (input, opened, (after, subst (λ b. BreaksOff b after) same (read going was)))
no_one_line U Opened bytes input before after answer line.Write was opened same going bad long read refused unwritten = absurd (unwritten was)
no_one_line U Opened bytes input before after answer line.OutOfMemory was opened same going bad long read refused unwritten = tt

-- what a fault of a line comes to, if memory was not lacking
refused_so : (f : UsiFault) (fault : PositionLineFault) → IsLineFaultOf f fault → ((f ≡ usi.OutOfMemory) × (fault ≡ line.OutOfMemory)) ⊎ ((f ≢ usi.OutOfMemory) × (fault ≡ line.Refused f))
refused_so usi.OutOfMemory fault is = inl (refl, is)
refused_so usi.BadLine fault is = inr (λ lost. cc, is)
refused_so (usi.Sfen g) fault is = inr (λ lost. cc, is)
refused_so (usi.BadMoveText n) fault is = inr (λ lost. cc, is)
refused_so (usi.Broken n rule) fault is = inr (λ lost. cc, is)
refused_so usi.TooManyMoves fault is = inr (λ lost. cc, is)

first_fault : (M : Type 0) (ws : List (List ℕ)) (f : UsiFault) → ((f ≡ usi.OutOfMemory) × M) ⊎ LineFault ws f → f ≢ usi.OutOfMemory → LineFault ws f
first_fault M ws f (inl lost) other = absurd (other lost.0)
first_fault M ws f (inr fault) other = fault

-- its one line is refused
pub line_refused : {Input : Type 0} (Unopened : Type 0) (Opened : Input → Type 0) (bytes : Input → Option (List ℕ)) (input : Input) (text : List ℕ) (M : Type 0) (f : UsiFault) (fault : PositionLineFault)
    → Opened input → IsOneLine (bytes input) text → ((f ≡ usi.OutOfMemory) × M) ⊎ LineFault (words text) f → IsLineFaultOf f fault → FailsToConvert Unopened Opened bytes fault
line_refused U Opened bytes input text M f fault opened alone stated gives = elim (refused_so f fault gives) [
  | inl lost ↦ subst (FailsToConvert U Opened bytes) (sym lost.1) tt
  | inr refused ↦ subst (FailsToConvert U Opened bytes) (sym refused.1) (input, opened, inr (text, alone, first_fault M (words text) f stated refused.0))
]

-- memory is not lacking where a line is refused
pub not_lost : (bytes : Option (List ℕ)) (f : UsiFault) → RefusesLine bytes f → f ≢ usi.OutOfMemory
not_lost bytes f (inl bad) = λ is. let other = bad.0 in cc
not_lost bytes f (inr (line, alone, fault)) = λ is. subst (LineFault (words line)) is fault

-- lines from '#' are read so
pub fails_so : {T Input : Type 0} (Unopened : Type 0) (Opened : HashLines → Input → Type 0) (bytes : Input → Option (List ℕ)) (answer : Result T PositionLineFault) (old new : HashLines) → old ≡ new
    → IfErr answer (FailsToConvert Unopened (Opened old) bytes) → IfErr answer (FailsToConvert Unopened (Opened new) bytes)
fails_so U Opened bytes answer old new same fails = subst (λ (lines : HashLines). IfErr answer (FailsToConvert U (Opened lines) bytes)) same fails
