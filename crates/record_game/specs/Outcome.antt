-- For private functions of `csa_record`: what becomes of the next statement.
-- A reader of the public contracts may skip this file.
use Rattle.std.specs.Prelude.{◌≡◌, ◌⊎◌, ℕ, List, [], ◌∷◌, ◌++◌, Option, Some, None, Result, Ok, Err}
use Rattle.csa_text.specs.Saying.{Saying}
use Rattle.csa_text.specs.Spelling.{Spells, fault_of_row}
use Rattle.record_game.specs.declared.fault.OrderFault.{OrderFault}
use Rattle.record_game.specs.declared.fault.OrderFault.TheVariants.{AfterEnding}
use Rattle.record_game.specs.declared.fault.Why.{Why}
use Rattle.record_game.specs.declared.fault.Why.TheVariants.{Text, OutOfMemory}
use Rattle.record_game.specs.Game.{Ended}
use Rattle.record_game.specs.Keeping.{Kept, HasKept}
use Rattle.record_game.specs.Refused.{AnswersItem}

-- some bytes spell this item
abbrev pub IsWritten : Saying → Type 0
IsWritten s = (bytes : List ℕ) × Spells bytes s

-- bytes that spell no item have the fault of their row
abbrev pub SpellNothing : List ℕ → Why → Type 0
SpellNothing bytes why = ((s : Saying) → Spells bytes s → ⊥) × (why ≡ Text (fault_of_row bytes))

-- the item that they spell is refused after those before it
abbrev pub SpellRefused : List Saying → List ℕ → Why → Type 0
SpellRefused before bytes why = (s : Saying) × Spells bytes s × AnswersItem before s (Some why)

-- the item that they spell has no fault
abbrev pub SpellTaken : List Saying → List ℕ → Saying → Type 0
SpellTaken before bytes s = Spells bytes s × AnswersItem before s None

-- the item that the bytes spell was taken; or it could be, and an allocation failed; or the bytes
-- are refused
abbrev pub Outcome : List Saying → List ℕ → Result (Unit {0}) Why → Kept → Type 0
Outcome before bytes (Ok u) new = (s : Saying) × SpellTaken before bytes s
    × HasKept (before ++ s ∷ []) new
Outcome before bytes (Err why) new =
    ((why ≡ OutOfMemory) × ((s : Saying) × SpellTaken before bytes s))
    ⊎ (SpellNothing bytes why ⊎ SpellRefused before bytes why)

-- the fault of a position statement or a side after the side to move; after an ending it is
-- AfterEnding
abbrev pub late : Option Ended → OrderFault → OrderFault
late None fault = fault
late (Some e) fault = AfterEnding
