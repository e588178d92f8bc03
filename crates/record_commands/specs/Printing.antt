-- For private functions of the commands: which text is printed of what was read.
-- A reader of the public contracts may skip this file.
use Rattle.std.specs.Prelude.{ℕ, List, Option, Result, Ok}
use Rattle.std.specs.Io.KnownBytes.{Appends}
use Rattle.csa_record.specs.declared.flow.FlowFault.{FlowFault}
use Rattle.record_game.specs.Game.{Game}
use Rattle.record_game.specs.Building.{game_along}
use Rattle.record_game.specs.Canon.{canon}
use Rattle.shogi_rules.specs.Positions.{Played}
use Rattle.record_commands.specs.OneLine.{OfOpened, IsPositionLine}
use Rattle.record_commands.specs.declared.report.RecordText.{RecordText}
use Rattle.record_commands.specs.declared.report.RecordText.TheVariants as texts
use Rattle.record_commands.specs.Words.{IsAcceptedLine, IsPositionText}

-- a game was read, and what was printed is a text that fits it
pub record Reports (Reads : Result Game FlowFault → Type 0) (Fits : Game → List ℕ → Type 0)
    (before after : Option (List ℕ)) : Type 0 where
  pub game : Game
  pub text : List ℕ
  pub read : Reads (Ok game)
  pub fits : Fits game text
  pub printed : Appends before after text

-- an input was opened, its bytes are one position line, and the canonical text of its game was
-- printed
pub record Converts {Input : Type 0} (Opened : Input → Type 0)
    (bytes : Input → Option (List ℕ)) (before after : Option (List ℕ)) : Type 0 where
  pub line : Played
  pub read : OfOpened Opened bytes (IsPositionLine line)
  pub printed : Appends before after (canon (game_along line))

-- the text about the game
abbrev pub Fits : RecordText → Game → List ℕ → Type 0
Fits texts.Accepted = IsAcceptedLine
Fits texts.PositionLine = IsPositionText
