-- When the engine is asked for a move, and how.
use Rattle.std.specs.Prelude.{◌≡◌, ℕ, ◌+◌, ◌-◌, ◌<◌, ◌++◌, List, [], ◌∷◌, length, Option, Some, None, map, decimal, if◌then◌else◌}
use Rattle.shogi_board.specs.declared.color.Color.{Color}
use Rattle.shogi_board.specs.declared.color.Color.TheVariants.{Black, White}
use Rattle.shogi_board.specs.Pieces.{opponent, same_color}
use Rattle.shogi_rules.specs.Positions.{max_moves}
use Rattle.shogi_rules.specs.Positions.{Over}
use Rattle.usi_text.specs.LineText.{LineText}
use Rattle.record_game.specs.Game.{Timed, move_of}
use Rattle.bridge_table.specs.declared.config.Config.{Config}
use Rattle.bridge_table.specs.declared.state.EngineState.{EngineState}
use Rattle.bridge_table.specs.declared.state.EngineState.TheVariants.{Thinking}
use Rattle.usi_text.specs.EngineTexts as usi_texts
use Rattle.bridge_table.specs.State.{Match, match_line, position_now}

-- the client is to move, the position has not occurred four times, and there are fewer than 10,000
-- moves
pub record MayAsk (g : Match) : Type 0 where
  pub to_move : (position_now g).side ≡ g.client
  pub not_over : Over (match_line g) → ⊥
  pub few : length g.game.moves < max_moves

abbrev pub thousandths : Option ℕ → ℕ
thousandths None = 0
thousandths (Some t) = t

-- the time that a side has used in these moves; the first is by this side
abbrev pub used : Color → Color → List Timed → ℕ
used color side [] = 0
used color side (m ∷ ms) =
    (if same_color color side then thousandths m.time else 0) + used color (opponent side) ms

-- what remains of a side's total time, in milliseconds; never below 0
abbrev pub left : Config → Match → Color → ℕ
left c g color = c.total_ms - used color g.game.start.side g.game.moves

abbrev pub go_line : Config → Match → List ℕ
go_line c g =
    usi_texts.go_black_time ++ (decimal (left c g Black)
    ++ (usi_texts.white_time ++ (decimal (left c g White)
    ++ (usi_texts.byoyomi ++ decimal c.byoyomi_ms))))

-- the position line of the game, and the go line
pub record AskLines (c : Config) (g : Match) (lines : List (List ℕ)) : Type 0 where
  pub position : List ℕ
  pub of_game : LineText g.game.start (map move_of g.game.moves) position
  pub whole : lines ≡ position ∷ go_line c g ∷ []

-- if the engine may be asked, it is asked and thinks; else it gets no line and its state stays
pub data Asks (c : Config) (g : Match)
    (old : EngineState) (lines : List (List ℕ)) (new : EngineState) : Type 0 where
  asked : MayAsk g → AskLines c g lines → new ≡ Thinking → Asks c g old lines new
  not_asked : (MayAsk g → ⊥) → lines ≡ [] → new ≡ old → Asks c g old lines new
