-- Which game the bytes of a record contain.
use Rattle.std.specs.Prelude.{ℕ, ◌≤◌, List, length}
use Rattle.std.specs.List.{AllZip}
use Rattle.csa_cutting.specs.Cut.{TextUnit, IsCut, statement_bytes, longest_statement}
use Rattle.csa_text.specs.Saying.{Saying}
use Rattle.csa_text.specs.Spelling.{Spells}
use Rattle.record_game.specs.Game.{Game}
use Rattle.record_game.specs.Says.{Says}

-- a statement of at most 4,096 bytes, including blanks at its end, that spells this item
abbrev pub IsSpelt : TextUnit → Saying → Type 0
IsSpelt unit saying = (length unit.bytes ≤ longest_statement)
    × Spells (statement_bytes unit.bytes) saying

-- the bytes are cut into statements, each spells an item, and the items say this game
pub record Tells (source : List ℕ) (g : Game) : Type 0 where
  pub statements : List TextUnit
  pub sayings : List Saying
  pub cut : IsCut source statements
  pub spelt : AllZip IsSpelt statements sayings
  pub says : Says sayings g
