-- For private functions: what a line of the engine says with `bestmove` in a position.
-- A reader of the public contracts may skip this file.
use Rattle.std.specs.Prelude.{◌≢◌, ℕ, List}
use Rattle.shogi_board.specs.Placed.{Placed}
use Rattle.shogi_board.specs.declared.moves.Move.{Move as TheMove}
use Rattle.shogi_board.specs.Legal.{Legal}
use Rattle.usi_text.specs.Moves.{UsiMove}
use Rattle.bridge_table.specs.declared.state.Answer.TheVariants.{Move, Toryo, Kachi}
use Rattle.shogi_session.specs.declared.best_move.BestMove.{BestMove}
use Rattle.shogi_session.specs.declared.best_move.BestMove.TheVariants.{Answer, Slip}
use Rattle.usi_text.specs.EngineTexts as usi_texts
use Rattle.bridge_table.specs.Row.{IsBestMove}

-- the word is a legal move; one of the two words that a bridge passes on; or none of these
abbrev pub TellsBestMove : Placed → List ℕ → BestMove → Type 0
TellsBestMove p line (Answer (Move m)) =
    (word : List ℕ) × IsBestMove line word × UsiMove p word m × Legal p m
TellsBestMove p line (Answer Toryo) = IsBestMove line usi_texts.engine_resigns
TellsBestMove p line (Answer Kachi) = IsBestMove line usi_texts.engine_wins
TellsBestMove p line Slip =
    (word : List ℕ) × IsBestMove line word × ((m : TheMove) → UsiMove p word m → Legal p m → ⊥)
    × (word ≢ usi_texts.engine_resigns) × (word ≢ usi_texts.engine_wins)
