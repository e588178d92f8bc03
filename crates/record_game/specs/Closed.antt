-- A refusal that the bytes so far decide.
use Rattle.std.specs.Prelude.{◌≡◌, ℕ, ◌+◌, List, [], ◌∷◌, ◌++◌, length}
use Rattle.csa_cutting.specs.Cut.{TextUnit}
use Rattle.csa_cutting.specs.ClosedStatements.{Closed}
use Rattle.csa_text.specs.Saying.{Saying}
use Rattle.record_game.specs.declared.fault.Why.{Why}
use Rattle.record_game.specs.Refused.{Fault, Faultless}

-- of the closed statements of these bytes, the first with a fault is this one
pub record ClosedAt (source : List ℕ) (number offset : ℕ) (why : Why) : Type 0 where
  pub front : List TextUnit
  pub unit : TextUnit
  pub following : List TextUnit
  pub sayings : List Saying
  pub closed : Closed source (front ++ unit ∷ following)
  pub faultless : Faultless [] front sayings
  pub fault : Fault sayings unit why
  pub number_is : number ≡ length front + 1
  pub place : offset ≡ unit.offset

-- none of the closed statements of these bytes has a fault, so none is too long
pub record AreFaultless (source : List ℕ) : Type 0 where
  pub closed : List TextUnit
  pub sayings : List Saying
  pub cut : Closed source closed
  pub faultless : Faultless [] closed sayings
