-- The key of a game, which it has in common with the games that are like it.
use Rattle.std.specs.Prelude.{◌≡◌, ℕ, List, map}
use Rattle.record_game.specs.declared.likeness.Likeness.{Likeness}
use Rattle.record_game.specs.declared.likeness.Likeness.TheVariants as likeness
use Rattle.record_game.specs.Canon.{canon}
use Rattle.record_game.specs.Game.{Game, move_of}
use Rattle.record_game.specs.Tells.{Tells}
use Rattle.usi_text.specs.LineText.{LineText}
use Rattle.usi_text.specs.Lines.{UsiLine}
use Rattle.usi_text.specs.Words.{words}

-- the canonical text of the game, or the position line of its start and moves
abbrev pub IsKeyOf : Likeness → Game → List ℕ → Type 0
IsKeyOf likeness.Game g key = (key ≡ canon g) × Tells key g
IsKeyOf likeness.Moves g key = LineText g.start (map move_of g.moves) key
    × UsiLine (words key) g.start (map move_of g.moves)
