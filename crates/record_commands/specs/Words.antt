-- The words that the commands print.
use Rattle.std.specs.Prelude.{◌≡◌, ℕ, List, [], ◌∷◌, ◌++◌, length, map, codes, decimal}
use Rattle.record_game.specs.Canon.{canon}
use Rattle.record_game.specs.Game.{Game, move_of}
use Rattle.shogi_board.specs.declared.color.Color.TheVariants.{Black, White}
use Rattle.shogi_rules.specs.Positions.{Played}
use Rattle.shogi_rules.specs.Verdicts.{Stands}
use Rattle.shogi_rules.specs.declared.line.Verdict.{Verdict}
use Rattle.shogi_rules.specs.declared.line.Verdict.TheVariants.{Ongoing, Mate, NoMove, Repetition, Perpetual}
use Rattle.usi_text.specs.LineText.{LineText}

-- the word for the state of a line of moves; for a perpetual check, with the sign of the side that
-- lost
abbrev pub word_of : Verdict → List ℕ
word_of Ongoing = codes "ongoing"
word_of Mate = codes "mate"
word_of NoMove = codes "no-move"
word_of Repetition = codes "repetition"
word_of (Perpetual Black) = codes "perpetual+"
word_of (Perpetual White) = codes "perpetual-"

-- the start of a game, and its moves
abbrev pub game_line : Game → Played
game_line g = record { start = g.start; moves = map move_of g.moves }

-- the line of `check`: the number of moves, a space, and the word for the state
abbrev pub accepted_line : ℕ → Verdict → List ℕ
accepted_line moves verdict =
    codes "accepted " ++ decimal moves ++ (32 ∷ (word_of verdict ++ (10 ∷ [])))

-- this is the line for the game: for all its moves, and the state after them
abbrev pub IsAcceptedLine : Game → List ℕ → Type 0
IsAcceptedLine g line =
    (verdict : Verdict) × Stands (game_line g) verdict
    × (line ≡ accepted_line (length g.moves) verdict)

-- the position line of the game's start and moves, and LF
abbrev pub IsPositionText : Game → List ℕ → Type 0
IsPositionText g text = (line : List ℕ) × LineText g.start (map move_of g.moves) line
    × (text ≡ line ++ 10 ∷ [])

-- the canonical text of the game
abbrev pub IsCanonical : Game → List ℕ → Type 0
IsCanonical g text = text ≡ canon g
