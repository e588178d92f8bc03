-- A source that gave all of some bytes.
use Rattle.std.proofs.Common.{◌≡◌, ℕ, List, ◌++◌, Bool, Option, Some, None, Result, Ok, Err, IfOk, inl, inr, refl, sym, ap, ◌∙◌, subst, append-nil}
use Rattle.std.specs.Prelude.{IsErrOf}
use Rattle.csa_record.specs.declared.flow.FlowFault.{FlowFault}
use Rattle.csa_record.specs.declared.flow.FlowFault.TheVariants as flow
use Rattle.game_archive.specs.Alike.{ReadsAs}
use Rattle.std.specs.Io.KnownBytes.{Consumes, IsAtEnd}
use Rattle.csa_record.specs.Flow.{GaveGame, IsRefusal, IsRefusedFrom}
use Rattle.record_game.specs.declared.fault.Refusal.{Refusal}
use Rattle.record_game.specs.Game.{Game}
use Rattle.record_game.specs.Refused.{Refused}
use Rattle.record_game.specs.Tells.{Tells}

same_bytes : (xs bytes : List ℕ) → Some xs ≡ Some bytes → xs ≡ bytes
same_bytes xs bytes h = cc

given_all : (known new : Option (List ℕ)) (bytes gave : List ℕ) → known ≡ Some bytes → Consumes known new gave → IsAtEnd new → gave ≡ bytes
given_all None new bytes gave e given ended = absurd cc
given_all (Some xs) None bytes gave e given ended = absurd given
given_all (Some xs) (Some ys) bytes gave e given ended = sym (append-nil gave) ∙ (ap (λ l. gave ++ l) (sym ended) ∙ (sym given ∙ same_bytes xs bytes e))

refused_from : (known new : Option (List ℕ)) (ended : Bool) (bytes gave : List ℕ) (r : Refusal) → known ≡ Some bytes → Consumes known new gave → IsRefusedFrom new ended gave r → Refused bytes r.number r.offset r.why
refused_from None new ended bytes gave r e given refused = absurd cc
refused_from (Some xs) None ended bytes gave r e given refused = absurd given
refused_from (Some xs) (Some ys) ended bytes gave r e given (inl every) = subst (λ l. Refused l r.number r.offset r.why) (sym given ∙ same_bytes xs bytes e) (every ys)
refused_from (Some xs) (Some ys) ended bytes gave r e given (inr p) = subst (λ l. Refused l r.number r.offset r.why) (given_all (Some xs) (Some ys) bytes gave e given p.0) p.2

told_whole : (known new : Option (List ℕ)) (bytes : List ℕ) (g : Game) → known ≡ Some bytes → GaveGame known new g → Tells bytes g
told_whole known new bytes g e gave = subst (λ l. Tells l g) (given_all known new bytes gave.bytes e gave.given gave.ended) gave.tells

refused_whole : (known new : Option (List ℕ)) (ended : Bool) (bytes : List ℕ) (r : Refusal) → known ≡ Some bytes → IsRefusal known new ended r → Refused bytes r.number r.offset r.why
refused_whole known new ended bytes r e refusal = refused_from known new ended bytes refusal.bytes r e refusal.given refusal.refused

-- what reading all of some bytes comes to
pub reads_as : (known new : Option (List ℕ)) (ended : Bool) (bytes : List ℕ) (result : Result Game FlowFault) → known ≡ Some bytes → IfOk result (λ g. GaveGame known new g)
    → ((r : Refusal) → IsErrOf result (flow.Refused r) → IsRefusal known new ended r) → ReadsAs bytes result
reads_as known new ended bytes (Ok g) e gave refused = told_whole known new bytes g e gave
reads_as known new ended bytes (Err (flow.Refused r)) e gave refused = refused_whole known new ended bytes r e (refused r refl)
reads_as known new ended bytes (Err flow.ReadFault) e gave refused = tt
reads_as known new ended bytes (Err flow.WriteFault) e gave refused = tt
reads_as known new ended bytes (Err flow.OutOfMemory) e gave refused = tt
