-- The digest of a record's canonical text, and why there is none.
use Rattle.std.proofs.Common.{◌≡◌, inl, inr, ℕ, Bool, true, List, Option, Result, Ok, Err, IfErr, IfOk, refl, subst, sym}
use Rattle.std.specs.Prelude.{IsErrOf}
use Rattle.csa_record.specs.Flow.{FailsRead, IsDigest, IsOutOfMemory, IsRefusal}
use Rattle.csa_record.specs.declared.flow.FlowFault.{FlowFault}
use Rattle.csa_record.specs.declared.flow.FlowFault.TheVariants as flow
use Rattle.record_commands.specs.Reports.{FailsToReport, GetsRecord}
use Rattle.record_commands.proofs.Recording.{anew}
use Rattle.record_game.specs.Canon.{canon}
use Rattle.record_game.specs.Game.{Game}
use Rattle.record_game.specs.declared.fault.Refusal.{Refusal}
use Rattle.sha2.specs.Sha256.{sha256}

pub digest_read : {Input : Type 0} (Unopened : Type 0) (Opened : Input → Type 0) (bytes : Input → Option (List ℕ)) (input shown after : Input) (ended : Bool) (before failures : ℕ) (answer : Result (List ℕ) FlowFault)
    → Opened input → shown ≡ input → before ≡ 0
    → IfOk answer (IsDigest (bytes shown) (bytes after)) → IfOk answer (λ _. ended ≡ true) → ((IsErrOf answer flow.ReadFault → ⊥) → failures ≡ before)
    → IfOk answer (λ digest. (game : Game) × GetsRecord Unopened Opened bytes (Ok game) × (digest ≡ sha256 (canon game)))
digest_read U Opened bytes input shown after ended before failures (Err fault) opened same none stated end quiet = tt
digest_read U Opened bytes input shown after ended before failures (Ok digest) opened same none (game, gave, is) end quiet =
    (game, anew U Opened bytes shown after ended before failures (Ok game) (subst Opened (sym same) opened) none (gave, end, quiet (λ fault. cc)), is)

lack : {Input : Type 0} (Unopened : Type 0) (Opened : Input → Type 0) (bytes : Input → Option (List ℕ)) (Fits : Game → List ℕ → Type 0) (input after : Input) (ended : Bool) (before failures : ℕ)
    → Opened input → before ≡ 0 → failures ≡ before → IsOutOfMemory (bytes input) (bytes after) ended → FailsToReport (GetsRecord Unopened Opened bytes) Fits flow.OutOfMemory
lack U Opened bytes Fits input after ended before failures opened none quiet (inl faultless) =
    inl (anew U Opened bytes input after ended before failures (Err flow.OutOfMemory) opened none (faultless, quiet))
lack U Opened bytes Fits input after ended before failures opened none quiet (inr (end, (game, stated))) =
    inr (game, anew U Opened bytes input after ended before failures (Ok game) opened none (stated, end, quiet))

pub digest_fails : {Input : Type 0} (Unopened : Type 0) (Opened : Input → Type 0) (bytes : Input → Option (List ℕ)) (Fits : Game → List ℕ → Type 0) (input shown after : Input) (ended : Bool) (before failures : ℕ) (answer : Result (List ℕ) FlowFault)
    → Opened input → shown ≡ input → before ≡ 0
    → ((r : Refusal) → IsErrOf answer (flow.Refused r) → IsRefusal (bytes shown) (bytes after) ended r) → (IsErrOf answer flow.ReadFault → FailsRead (bytes shown) (bytes after) before failures)
    → ((IsErrOf answer flow.ReadFault → ⊥) → failures ≡ before) → (IsErrOf answer flow.OutOfMemory → IsOutOfMemory (bytes shown) (bytes after) ended) → (IsErrOf answer flow.WriteFault → ⊥)
    → IfErr answer (FailsToReport (GetsRecord Unopened Opened bytes) Fits)
digest_fails U Opened bytes Fits input shown after ended before failures (Ok digest) opened same none refused fails quiet out_of_memory unwritten = tt
digest_fails U Opened bytes Fits input shown after ended before failures (Err (flow.Refused r)) opened same none refused fails quiet out_of_memory unwritten =
    anew U Opened bytes shown after ended before failures (Err (flow.Refused r)) (subst Opened (sym same) opened) none (refused r refl, quiet (λ is. cc))
digest_fails U Opened bytes Fits input shown after ended before failures (Err flow.ReadFault) opened same none refused fails quiet out_of_memory unwritten =
    anew U Opened bytes shown after ended before failures (Err flow.ReadFault) (subst Opened (sym same) opened) none (fails refl)
digest_fails U Opened bytes Fits input shown after ended before failures (Err flow.WriteFault) opened same none refused fails quiet out_of_memory unwritten = absurd (unwritten refl)
digest_fails U Opened bytes Fits input shown after ended before failures (Err flow.OutOfMemory) opened same none refused fails quiet out_of_memory unwritten =
    lack U Opened bytes Fits shown after ended before failures (subst Opened (sym same) opened) none (quiet (λ is. cc)) (out_of_memory refl)

-- why there is no text, unless it was not written, is why there is no other
pub fails_otherwise : (Reads : Result Game FlowFault → Type 0) (Fits Other : Game → List ℕ → Type 0) (fault : FlowFault) → FailsToReport Reads Fits fault → (fault ≡ flow.WriteFault → ⊥)
    → FailsToReport Reads Other fault
fails_otherwise Reads Fits Other (flow.Refused r) fails written = fails
fails_otherwise Reads Fits Other flow.ReadFault fails written = fails
fails_otherwise Reads Fits Other flow.WriteFault fails written = absurd (written refl)
fails_otherwise Reads Fits Other flow.OutOfMemory fails written = fails
