-- Readings that may come to the same as before.
use Rattle.std.proofs.Common.{◌≡◌, ◌∙◌, ℕ, ◌<◌, List, Result, Ok, Err, ap, subst}
use Rattle.csa_record.specs.declared.flow.FlowFault.{FlowFault}
use Rattle.csa_record.specs.declared.flow.FlowFault.TheVariants as flow
use Rattle.record_game.specs.declared.fault.Refusal.{Refusal}
use Rattle.record_game.specs.Game.{Game}
use Rattle.record_game.specs.Refused.{Refused}
use Rattle.record_game.specs.Tells.{Tells}
use Rattle.game_archive.specs.Alike.{GiveBytes, GivesOnly}
use Rattle.game_archive.specs.Readings.{ReadAlike}

abbrev Readings : Type 1
Readings = ℕ → Result Game FlowFault → Type 0

pub alike_refl : (R : Readings) → ReadAlike R R
alike_refl R = λ at r. (λ h. h, λ h. h)

pub alike_trans : (R S T : Readings) → ReadAlike R S → ReadAlike S T → ReadAlike R T
alike_trans R S T f h = λ at r. (λ x. (h at r).0 ((f at r).0 x), λ x. (f at r).1 ((h at r).1 x))

-- entries that gave their bytes still do
pub gives_still : (R S : Readings) (size now : ℕ) (bytes : ℕ → List ℕ) → ReadAlike R S → now ≡ size → GiveBytes size R bytes → GiveBytes now S bytes
gives_still R S size now bytes alike e gives = λ i less r h. gives i (subst (λ n. i < n) e less) r ((alike i r).1 h)

-- what a reading of known bytes came to
pub tells_as_read : (Reads : Result Game FlowFault → Type 0) (bytes : List ℕ) (result : Result Game FlowFault) (g : Game) → GivesOnly Reads bytes → Reads result → result ≡ Ok g → Tells bytes g
tells_as_read Reads bytes result g gives reads is = gives (Ok g) (subst Reads is reads)

pub refused_as_read : (Reads : Result Game FlowFault → Type 0) (bytes : List ℕ) (result : Result Game FlowFault) (fault : FlowFault) (r : Refusal) → GivesOnly Reads bytes → Reads result
    → result ≡ Err fault → fault ≡ flow.Refused r → Refused bytes r.number r.offset r.why
refused_as_read Reads bytes result fault r gives reads is same = gives (Err (flow.Refused r)) (subst Reads (is ∙ ap Err same) reads)
