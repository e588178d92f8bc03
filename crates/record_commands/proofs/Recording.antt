-- What was read of a record, and why no text was printed about it.
use Rattle.std.proofs.Common.{◌≡◌, inl, inr, ℕ, Bool, true, List, [], ◌++◌, Option, Result, Ok, Err, IfErr, IfOk, OnOk, refl, subst, sym}
use Rattle.std.specs.Prelude.{IsErrOf}
use Rattle.std.proofs.lemmas.Result.{IfErr-at_err}
use Rattle.hash_comments.specs.declared.comments.HashLines.{HashLines}
use Rattle.record_game.specs.Canon.{canon}
use Rattle.record_game.specs.Game.{Game}
use Rattle.record_game.specs.declared.fault.Refusal.{Refusal}
use Rattle.record_game.specs.Refused.{Refused}
use Rattle.csa_record.specs.Flow.{AppendsFront, FailsRead, IsCutShort, IsFaultless, IsNormal, IsRefusal, IsRefusedFrom, GaveGame, IsOutOfMemory, ReadsRecord}
use Rattle.csa_record.specs.declared.flow.FlowFault.{FlowFault}
use Rattle.csa_record.specs.declared.flow.FlowFault.TheVariants as flow
use Rattle.record_commands.specs.Faults.{flow_fault_of}
use Rattle.record_commands.specs.Reports.{FailsToReport, GetsRecord, no_memory, read, unopened}
use Rattle.record_commands.specs.Printing.{Reports}
use Rattle.record_commands.specs.Words.{IsCanonical}
use Rattle.record_commands.specs.declared.fault.ReadFault.{ReadFault}
use Rattle.record_commands.specs.declared.fault.ReadFault.TheVariants as reading

some_refused : (new : Option (List ℕ)) (ended : Bool) (bytes : List ℕ) (r : Refusal) → IsRefusedFrom new ended bytes r → (all : List ℕ) × Refused all r.number r.offset r.why
some_refused new ended bytes r (inl refused) = (bytes ++ [], refused [])
some_refused new ended bytes r (inr (over, seen, refused)) = (bytes, refused)

refused_in : {Input : Type 0} (Unopened : Type 0) (Opened : Input → Type 0) (bytes : Input → Option (List ℕ)) (r : Refusal) → GetsRecord Unopened Opened bytes (Err (flow.Refused r)) → (all : List ℕ) × Refused all r.number r.offset r.why
refused_in U Opened bytes r (unopened none is) = cc
refused_in U Opened bytes r (no_memory is) = cc
refused_in U Opened bytes r (read input after ended failures opened refusal) = some_refused (bytes after) ended refusal.0.bytes r refusal.0.refused

-- a record is refused only if some bytes are
pub refused_in_some : {T Input : Type 0} (Unopened : Type 0) (Opened : Input → Type 0) (bytes : Input → Option (List ℕ)) (Fits : Game → List ℕ → Type 0) (answer : Result T FlowFault) (r : Refusal)
    → IfErr answer (FailsToReport (GetsRecord Unopened Opened bytes) Fits) → IsErrOf answer (flow.Refused r) → (all : List ℕ) × Refused all r.number r.offset r.why
refused_in_some U Opened bytes Fits answer r fails is = refused_in U Opened bytes r (IfErr-at_err (FailsToReport (GetsRecord U Opened bytes) Fits) is fails)

-- ---- what was read

-- the answers of reading, in one statement
pub reads_record : (old new : Option (List ℕ)) (ended : Bool) (before after : ℕ) (answer : Result Game FlowFault)
    → IfOk answer (λ g. GaveGame old new g) → IfOk answer (λ _. ended ≡ true) → ((r : Refusal) → IsErrOf answer (flow.Refused r) → IsRefusal old new ended r)
    → (IsErrOf answer flow.ReadFault → FailsRead old new before after) → ((IsErrOf answer flow.ReadFault → ⊥) → after ≡ before)
    → (IsErrOf answer flow.OutOfMemory → IsFaultless old new ended) → (IsErrOf answer flow.WriteFault → ⊥)
    → ReadsRecord old new ended before after answer
reads_record old new ended before after (Ok g) stated end refused fails quiet out_of_memory unwritten = (stated, end, quiet (λ is. cc))
reads_record old new ended before after (Err (flow.Refused r)) stated end refused fails quiet out_of_memory unwritten = (refused r refl, quiet (λ is. cc))
reads_record old new ended before after (Err flow.ReadFault) stated end refused fails quiet out_of_memory unwritten = fails refl
reads_record old new ended before after (Err flow.WriteFault) stated end refused fails quiet out_of_memory unwritten = absurd (unwritten refl)
reads_record old new ended before after (Err flow.OutOfMemory) stated end refused fails quiet out_of_memory unwritten = (out_of_memory refl, quiet (λ is. cc))

-- of an input that no read had failed at
pub anew : {Input : Type 0} (Unopened : Type 0) (Opened : Input → Type 0) (bytes : Input → Option (List ℕ)) (input after : Input) (ended : Bool) (before failures : ℕ) (answer : Result Game FlowFault)
    → Opened input → before ≡ 0 → ReadsRecord (bytes input) (bytes after) ended before failures answer → GetsRecord Unopened Opened bytes answer
anew U Opened bytes input after ended before failures answer opened none reads =
    read input after ended failures opened (subst (λ n. ReadsRecord (bytes input) (bytes after) ended n failures answer) none reads)

pub gets_record : {Input : Type 0} (Unopened : Type 0) (Opened : Input → Type 0) (bytes : Input → Option (List ℕ)) (input shown after : Input) (ended : Bool) (before failures : ℕ) (answer : Result Game FlowFault)
    → Opened input → shown ≡ input → before ≡ 0
    → IfOk answer (λ g. GaveGame (bytes shown) (bytes after) g) → IfOk answer (λ _. ended ≡ true) → ((r : Refusal) → IsErrOf answer (flow.Refused r) → IsRefusal (bytes shown) (bytes after) ended r)
    → (IsErrOf answer flow.ReadFault → FailsRead (bytes shown) (bytes after) before failures) → ((IsErrOf answer flow.ReadFault → ⊥) → failures ≡ before)
    → (IsErrOf answer flow.OutOfMemory → IsFaultless (bytes shown) (bytes after) ended) → (IsErrOf answer flow.WriteFault → ⊥)
    → GetsRecord Unopened Opened bytes answer
gets_record U Opened bytes input shown after ended before failures answer opened same none stated end refused fails quiet out_of_memory unwritten =
    anew U Opened bytes shown after ended before failures answer (subst Opened (sym same) opened) none
    (reads_record (bytes shown) (bytes after) ended before failures answer stated end refused fails quiet out_of_memory unwritten)

-- nothing was opened
pub none_read : {Input : Type 0} (Unopened : Type 0) (Opened : Input → Type 0) (bytes : Input → Option (List ℕ)) (r : ReadFault) (fault : FlowFault)
    → (r ≡ reading.Failed → Unopened) → fault ≡ flow_fault_of r → GetsRecord Unopened Opened bytes (Err fault)
none_read U Opened bytes reading.Failed fault none is = subst (λ f. GetsRecord U Opened bytes (Err f)) (sym is) (unopened (none refl) refl)
none_read U Opened bytes reading.OutOfMemory fault none is = subst (λ f. GetsRecord U Opened bytes (Err f)) (sym is) (no_memory refl)

-- ---- why no text was printed

-- no record was read
pub no_record : (Reads : Result Game FlowFault → Type 0) (Fits : Game → List ℕ → Type 0) (fault : FlowFault)
    → (Reads (Err flow.WriteFault) → ⊥) → Reads (Err fault) → FailsToReport Reads Fits fault
no_record Reads Fits (flow.Refused r) unwritten reads = reads
no_record Reads Fits flow.ReadFault unwritten reads = reads
no_record Reads Fits flow.WriteFault unwritten reads = absurd (unwritten reads)
no_record Reads Fits flow.OutOfMemory unwritten reads = inl reads

pub never_written : {Input : Type 0} (Unopened : Type 0) (Opened : Input → Type 0) (bytes : Input → Option (List ℕ)) → GetsRecord Unopened Opened bytes (Err flow.WriteFault) → ⊥
never_written U Opened bytes (unopened none is) = cc
never_written U Opened bytes (no_memory is) = cc
never_written U Opened bytes (read input after ended failures opened reads) = reads

-- what is read so, is also read in a wider sense
wider : (Reads Gets : Result Game FlowFault → Type 0) (Fits : Game → List ℕ → Type 0) (fault : FlowFault) → ((r : Result Game FlowFault) → Reads r → Gets r) → FailsToReport Reads Fits fault → FailsToReport Gets Fits fault
wider Reads Gets Fits (flow.Refused r) more reads = more (Err (flow.Refused r)) reads
wider Reads Gets Fits flow.ReadFault more reads = more (Err flow.ReadFault) reads
wider Reads Gets Fits flow.WriteFault more (game, text, reads, fits) = (game, text, more (Ok game) reads, fits)
wider Reads Gets Fits flow.OutOfMemory more (inl reads) = inl (more (Err flow.OutOfMemory) reads)
wider Reads Gets Fits flow.OutOfMemory more (inr (game, reads)) = inr (game, more (Ok game) reads)

pub fails_wider : {T : Type 0} (Reads Gets : Result Game FlowFault → Type 0) (Fits : Game → List ℕ → Type 0) (answer : Result T FlowFault) → ((r : Result Game FlowFault) → Reads r → Gets r)
    → IfErr answer (FailsToReport Reads Fits) → IfErr answer (FailsToReport Gets Fits)
fails_wider Reads Gets Fits (Ok u) more fails = tt
fails_wider Reads Gets Fits (Err fault) more fails = wider Reads Gets Fits fault more fails

pub reports_wider : {T : Type 0} (Reads Gets : Result Game FlowFault → Type 0) (Fits : Game → List ℕ → Type 0) (before after : Option (List ℕ)) (answer : Result T FlowFault) → ((r : Result Game FlowFault) → Reads r → Gets r)
    → OnOk answer (Reports Reads Fits before after) → OnOk answer (Reports Gets Fits before after)
reports_wider Reads Gets Fits before after (Ok u) more reports = record { game = reports.game; text = reports.text; read = more (Ok reports.game) reports.read; fits = reports.fits; printed = reports.printed }
reports_wider Reads Gets Fits before after (Err fault) more reports = tt

-- ---- the canonical text

pub normal_so : {Input : Type 0} (Unopened : Type 0) (Opened : Input → Type 0) (bytes : Input → Option (List ℕ)) (input shown after : Input) (ended : Bool) (before failures : ℕ) (held now : Option (List ℕ)) (answer : Result (Unit {0}) FlowFault)
    → Opened input → shown ≡ input → before ≡ 0
    → OnOk answer (IsNormal (bytes shown) (bytes after) held now) → OnOk answer (ended ≡ true) → ((IsErrOf answer flow.ReadFault → ⊥) → failures ≡ before)
    → OnOk answer (Reports (GetsRecord Unopened Opened bytes) IsCanonical held now)
normal_so U Opened bytes input shown after ended before failures held now (Err fault) opened same none normal end quiet = tt
normal_so U Opened bytes input shown after ended before failures held now (Ok u) opened same none normal end quiet = record {
  game = normal.game;
  text = canon normal.game;
  read = anew U Opened bytes shown after ended before failures (Ok normal.game) (subst Opened (sym same) opened) none (normal.stated, end, quiet (λ is. cc));
  fits = refl;
  printed = normal.taken;
}

pub cut_short_so : {Input : Type 0} (Unopened : Type 0) (Opened : Input → Type 0) (bytes : Input → Option (List ℕ)) (input shown after : Input) (ended : Bool) (before failures : ℕ) (held now : Option (List ℕ)) (answer : Result (Unit {0}) FlowFault)
    → Opened input → shown ≡ input → before ≡ 0
    → (IsErrOf answer flow.WriteFault → IsCutShort (bytes shown) (bytes after) held now × (ended ≡ true)) → ((IsErrOf answer flow.ReadFault → ⊥) → failures ≡ before)
    → IsErrOf answer flow.WriteFault → (game : Game) × GetsRecord Unopened Opened bytes (Ok game) × AppendsFront held now (canon game)
cut_short_so U Opened bytes input shown after ended before failures held now answer opened same none cut quiet is =
    let part = cut is in (
      part.0.game,
      anew U Opened bytes shown after ended before failures (Ok part.0.game) (subst Opened (sym same) opened) none (part.0.stated, part.1, quiet (λ other. cc)),
      part.0.taken,
    )

lack : {Input : Type 0} (Unopened : Type 0) (Opened : Input → Type 0) (bytes : Input → Option (List ℕ)) (input after : Input) (ended : Bool) (before failures : ℕ)
    → Opened input → before ≡ 0 → failures ≡ before → IsOutOfMemory (bytes input) (bytes after) ended → FailsToReport (GetsRecord Unopened Opened bytes) IsCanonical flow.OutOfMemory
lack U Opened bytes input after ended before failures opened none quiet (inl faultless) =
    inl (anew U Opened bytes input after ended before failures (Err flow.OutOfMemory) opened none (faultless, quiet))
lack U Opened bytes input after ended before failures opened none quiet (inr (end, (g, stated))) =
    inr (g, anew U Opened bytes input after ended before failures (Ok g) opened none (stated, end, quiet))

pub normal_fails : {Input : Type 0} (Unopened : Type 0) (Opened : Input → Type 0) (bytes : Input → Option (List ℕ)) (input shown after : Input) (ended : Bool) (before failures : ℕ) (held now : Option (List ℕ)) (answer : Result (Unit {0}) FlowFault)
    → Opened input → shown ≡ input → before ≡ 0
    → ((r : Refusal) → IsErrOf answer (flow.Refused r) → IsRefusal (bytes shown) (bytes after) ended r) → (IsErrOf answer flow.ReadFault → FailsRead (bytes shown) (bytes after) before failures)
    → ((IsErrOf answer flow.ReadFault → ⊥) → failures ≡ before) → (IsErrOf answer flow.WriteFault → IsCutShort (bytes shown) (bytes after) held now × (ended ≡ true))
    → (IsErrOf answer flow.OutOfMemory → IsOutOfMemory (bytes shown) (bytes after) ended) → IfErr answer (FailsToReport (GetsRecord Unopened Opened bytes) IsCanonical)
normal_fails U Opened bytes input shown after ended before failures held now (Ok u) opened same none refused fails quiet cut out_of_memory = tt
normal_fails U Opened bytes input shown after ended before failures held now (Err (flow.Refused r)) opened same none refused fails quiet cut out_of_memory =
    anew U Opened bytes shown after ended before failures (Err (flow.Refused r)) (subst Opened (sym same) opened) none (refused r refl, quiet (λ is. cc))
normal_fails U Opened bytes input shown after ended before failures held now (Err flow.ReadFault) opened same none refused fails quiet cut out_of_memory =
    anew U Opened bytes shown after ended before failures (Err flow.ReadFault) (subst Opened (sym same) opened) none (fails refl)
normal_fails U Opened bytes input shown after ended before failures held now (Err flow.WriteFault) opened same none refused fails quiet cut out_of_memory =
    let part = cut refl in
    let gets = anew U Opened bytes shown after ended before failures (Ok part.0.game) (subst Opened (sym same) opened) none (part.0.stated, part.1, quiet (λ is. cc)) in
    (part.0.game, canon part.0.game, gets, refl)
normal_fails U Opened bytes input shown after ended before failures held now (Err flow.OutOfMemory) opened same none refused fails quiet cut out_of_memory =
    lack U Opened bytes shown after ended before failures (subst Opened (sym same) opened) none (quiet (λ is. cc)) (out_of_memory refl)

-- ---- how lines from '#' are read

pub fails_so : {T Input : Type 0} (Unopened : Type 0) (Opened : HashLines → Input → Type 0) (bytes : Input → Option (List ℕ)) (Fits : Game → List ℕ → Type 0) (answer : Result T FlowFault) (old new : HashLines) → old ≡ new
    → IfErr answer (FailsToReport (GetsRecord Unopened (Opened old) bytes) Fits) → IfErr answer (FailsToReport (GetsRecord Unopened (Opened new) bytes) Fits)
fails_so U Opened bytes Fits answer old new same fails = subst (λ (lines : HashLines). IfErr answer (FailsToReport (GetsRecord U (Opened lines) bytes) Fits)) same fails
