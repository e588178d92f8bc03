-- Why the lines of a game summary offer no game.
use Rattle.std.specs.Prelude.{◌≡◌, ◌≢◌, ℕ, ◌<◌, List, [], ◌∷◌, length, Some}
use Rattle.shogi_board.specs.declared.color.Color.{Color}
use Rattle.csa_text.specs.Codes.{sign}
use Rattle.record_game.specs.Game.{Game}
use Rattle.bridge_table.specs.State.{Client, summary}
use Rattle.bridge_table.specs.Summary.{SummaryContent, TellsPosition, none, one, several}
use Rattle.shogi_session.specs.declared.summary_fault.SummaryFault.{SummaryFault}
use Rattle.shogi_session.specs.declared.summary_fault.SummaryFault.TheVariants.{OpenBlock, LongName, NoTurn, NoPosition, SeveralPositions, BadPosition}

-- for this cause what counts of the lines offers no game
pub data IsFaultOf (h : SummaryContent) : SummaryFault → Type 0 where
  open_block : (title : List ℕ) → h.begun ≡ Some title → IsFaultOf h OpenBlock
  long_black : 4094 < length h.black → IsFaultOf h LongName
  long_white : 4094 < length h.white → IsFaultOf h LongName
  no_turn : ((color : Color) → h.turn ≢ sign color ∷ []) → IsFaultOf h NoTurn
  no_position : h.positions ≡ none → IsFaultOf h NoPosition
  several_positions : h.positions ≡ several → IsFaultOf h SeveralPositions
  bad_position : (text : List ℕ) → h.positions ≡ one text
      → ((g : Game) → TellsPosition text g → ⊥) → IsFaultOf h BadPosition

-- for this cause the summary that a client reads offers no game
abbrev pub HasSummaryFault : Client → SummaryFault → Type 0
HasSummaryFault client fault =
    (h : SummaryContent) × (client ≡ summary h) × IsFaultOf h fault
