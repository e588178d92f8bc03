-- What a reading of a file comes to.
use Rattle.std.proofs.Common.{◌≡◌, ℕ, List, Option, Result, Ok, Err, IfErr}
use Rattle.csa_record.specs.declared.flow.FlowFault.{FlowFault}
use Rattle.csa_record.specs.declared.flow.FlowFault.TheVariants as flow
use Rattle.record_commands.specs.Reports.{GetsRecord, no_memory, read, unopened}
use Rattle.record_game.specs.Game.{Game}

pub gets_still : {Input : Type 0} (U V : Type 0) (Opened : Input → Type 0) (bytes : Input → Option (List ℕ)) (result : Result Game FlowFault) → (U → V)
    → GetsRecord U Opened bytes result → GetsRecord V Opened bytes result
gets_still U V O b r more (unopened u is) = unopened (more u) is
gets_still U V O b r more (no_memory is) = no_memory is
gets_still U V O b r more (read input after ended failures opened reads) = read input after ended failures opened reads

never_write : {Input : Type 0} (U : Type 0) (Opened : Input → Type 0) (bytes : Input → Option (List ℕ)) → GetsRecord U Opened bytes (Err flow.WriteFault) → ⊥
never_write U O b (unopened u is) = absurd cc
never_write U O b (no_memory is) = absurd cc
never_write U O b (read input after ended failures opened reads) = reads

no_write_of : {Input : Type 0} (U : Type 0) (Opened : Input → Type 0) (bytes : Input → Option (List ℕ)) (fault : FlowFault) → GetsRecord U Opened bytes (Err fault) → fault ≡ flow.WriteFault → ⊥
no_write_of U O b (flow.Refused r) gets is = absurd cc
no_write_of U O b flow.ReadFault gets is = absurd cc
no_write_of U O b flow.WriteFault gets is = never_write U O b gets
no_write_of U O b flow.OutOfMemory gets is = absurd cc

-- a reading writes nothing
pub no_write : {Input : Type 0} (U : Type 0) (Opened : Input → Type 0) (bytes : Input → Option (List ℕ)) (result : Result Game FlowFault) → GetsRecord U Opened bytes result
    → IfErr result (λ fault. fault ≡ flow.WriteFault → ⊥)
no_write U O b (Ok game) gets = tt
no_write U O b (Err fault) gets = no_write_of U O b fault gets
