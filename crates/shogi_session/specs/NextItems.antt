-- For private functions that go through a line statement by statement.
-- A reader of the public contracts may skip this file.
use Rattle.std.specs.Prelude.{◌≡◌, ◌<◌, ◌≤◌, ℕ, List, [], ◌∷◌, length, Option, Some, None, Result, Ok, Err, ◌⊎◌}
use Rattle.csa_cutting.specs.Cut.{TextUnit, statement_bytes, longest_statement}
use Rattle.csa_cutting.specs.Cutting.{Cutting, ToCome}
use Rattle.csa_text.specs.Saying.{Saying, time, ending, saying_of}
use Rattle.csa_text.specs.Spelling.{Spells, fault_of_row}
use Rattle.csa_text.specs.declared.ending.Ending.{Ending}
use Rattle.csa_text.specs.declared.fault.TextFault.{TextFault}
use Rattle.csa_text.specs.declared.fault.TextFault.TheVariants.{StatementTooLong}
use Rattle.csa_text.specs.declared.item.Item.{Item}
use Rattle.csa_record.specs.Tells.{IsSpelt}
use Rattle.session_lines.specs.ServerLines.{IsTime, UnitFault, ExtraFault}

-- the next statement is this one, and those of the new cutter follow it
abbrev pub StepsOver : Cutting → TextUnit → Cutting → Type 0
StepsOver old u new = (others : List TextUnit) → ToCome new others → ToCome old (u ∷ others)

-- the statement is too long, or spells nothing
pub data IsUnread (u : TextUnit) (fault : TextFault) : Type 0 where
  too_long : longest_statement < length u.bytes → fault ≡ StatementTooLong → IsUnread u fault
  unread :
      length u.bytes ≤ longest_statement → ((s : Saying) → Spells (statement_bytes u.bytes) s → ⊥)
      → fault ≡ fault_of_row (statement_bytes u.bytes)
      → IsUnread u fault

-- what the next statement says, or its fault, or that there is none
abbrev pub Next : Cutting → Result (Option Item) TextFault → Cutting → Type 0
Next old (Ok None) new = ToCome old []
Next old (Ok (Some item)) new = (u : TextUnit) × IsSpelt u (saying_of item) × StepsOver old u new
Next old (Err fault) new =
    (u : TextUnit) × (rest : List TextUnit) × ToCome old (u ∷ rest) × IsUnread u fault

-- the next statement is one of these, or has that fault there
abbrev pub FaultAt : Cutting → (Saying → Type 0) → TextFault → Type 0
FaultAt old Wanted fault =
    (u : TextUnit) × (rest : List TextUnit) × ToCome old (u ∷ rest) × UnitFault Wanted u fault

abbrev pub IsEnding : Saying → Type 0
IsEnding s = (e : Ending) × (s ≡ ending e)

-- a statement where none is expected
abbrev pub EndFault : Cutting → TextFault → Type 0
EndFault old fault =
    (u : TextUnit) × (rest : List TextUnit) × ToCome old (u ∷ rest) × ExtraFault u fault

-- the time, which is all that is left; or none, if nothing is left; or the first fault of what is
-- left
abbrev pub LastTime : Cutting → Result (Option ℕ) TextFault → Type 0
LastTime old (Ok None) = ToCome old []
LastTime old (Ok (Some t)) = (u : TextUnit) × IsSpelt u (time t) × ToCome old (u ∷ [])
LastTime old (Err fault) = FaultAt old IsTime fault ⊎ (
    (u v : TextUnit) × (rest : List TextUnit) × (t : ℕ)
    × ToCome old (u ∷ v ∷ rest) × IsSpelt u (time t) × ExtraFault v fault)
