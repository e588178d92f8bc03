-- For private functions: the text of a position block, apart from its game.
-- A reader of the public contracts may skip this file.
use Rattle.std.specs.Prelude.{◌≡◌, ◌⊎◌, ◌++◌, ℕ, true, List, [], ◌∷◌, Option, Some, None}
use Rattle.std.specs.List.{AllByRecursion, AllZip}
use Rattle.csa_cutting.specs.Cut.{TextUnit, IsCut}
use Rattle.csa_text.specs.Saying.{Saying}
use Rattle.csa_text.specs.Spelling.{Spells}
use Rattle.csa_record.specs.Game.{Game}
use Rattle.csa_record.specs.RecordReading.{RecordReading, HasRead}
use Rattle.csa_record.specs.Tells.{IsSpelt, Tells}
use Rattle.shogi_session.specs.declared.position_reader.BlockState.{BlockState}
use Rattle.shogi_session.specs.declared.position_reader.BlockState.TheVariants.{Reading as going, Failed}
use Rattle.shogi_session.specs.declared.position_reader.Fed.{Fed}
use Rattle.shogi_session.specs.declared.position_reader.Fed.TheVariants.{Taken, Refused}
use Rattle.bridge_table.specs.Summary.{in_position, TellsPosition}

-- the bytes spell a position, side, move or time statement
abbrev pub SpellsPosition : List ℕ → Type 0
SpellsPosition bytes = (s : Saying) × Spells bytes s × (in_position s ≡ true)

-- the text has only statements of these kinds
pub record IsPositionText (text : List ℕ) : Type 0 where
  pub statements : List TextUnit
  pub sayings : List Saying
  pub cut : IsCut text statements
  pub spelt : AllZip IsSpelt statements sayings
  pub no_others : AllByRecursion (λ s. in_position s ≡ true) sayings

-- the game that the text spells, without names; or it spells none
abbrev pub IsPositionRead : List ℕ → Option Game → Type 0
IsPositionRead text None = (g : Game) → TellsPosition text g → ⊥
IsPositionRead text (Some g) = TellsPosition text g × (g.black ≡ None) × (g.white ≡ None)

-- whatever follows it, the text spells no game
abbrev pub TellsNone : List ℕ → Type 0
TellsNone text = (more : List ℕ) (g : Game) → TellsPosition (text ++ more) g → ⊥

-- no lines, or the last byte ends one
abbrev pub IsWhole : List ℕ → Type 0
IsWhole text = (text ≡ []) ⊎ ((front : List ℕ) × (text ≡ front ++ 10 ∷ []))

-- the reader was fed this text, which is whole lines; if more bytes may make it a record, it has
-- only statements of these kinds
pub record IsFed (text : List ℕ) (reader : RecordReading) : Type 0 where
  pub read : HasRead text reader
  pub whole : IsWhole text
  pub fits : (more : List ℕ) (g : Game) → Tells (text ++ more) g → IsPositionText text

-- the reader was fed this text, or the text spells no game
abbrev pub IsFedOn : List ℕ → Fed → RecordReading → Type 0
IsFedOn text Taken reader = HasRead text reader
IsFedOn text Refused reader = TellsNone text

-- the reader was fed this text of whole lines, or the text spells no game
abbrev pub IsTaken : List ℕ → Fed → RecordReading → Type 0
IsTaken text Taken reader = IsFed text reader
IsTaken text Refused reader = TellsNone text

abbrev pub HasCome : List ℕ → BlockState → Type 0
HasCome text (going reader) = IsFed text reader
HasCome text Failed = TellsNone text
