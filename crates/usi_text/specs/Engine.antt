-- What an engine's line says: its first word decides.
use Rattle.std.specs.Prelude.{◌≡◌, ◌≢◌, ℕ, List, Option, Some, None}
use Rattle.usi_text.specs.declared.engine.EngineWord.{EngineWord}
use Rattle.usi_text.specs.declared.engine.EngineWord.TheVariants.{UsiOk, ReadyOk, Best, Resign, Win, Other}
use Rattle.usi_text.specs.EngineTexts as texts
use Rattle.usi_text.specs.Words.{nth_word}

-- what the word after bestmove says, an empty text if there is none; it never says one of the other
-- answers
abbrev pub BestSays : List ℕ → EngineWord → Type 0
BestSays word Resign = word ≡ texts.engine_resigns
BestSays word Win = word ≡ texts.engine_wins
BestSays word (Best text) =
    (text.now ≡ word) × (word ≢ texts.engine_resigns) × (word ≢ texts.engine_wins)
BestSays word UsiOk = ⊥
BestSays word ReadyOk = ⊥
BestSays word Other = ⊥

-- what the words of a line say; those after the second do not count
abbrev pub LineSays : List (List ℕ) → EngineWord → Type 0
LineSays ws UsiOk = nth_word ws 0 ≡ texts.usi_ok
LineSays ws ReadyOk = nth_word ws 0 ≡ texts.ready_ok
LineSays ws Other = (nth_word ws 0 ≢ texts.usi_ok) × (nth_word ws 0 ≢ texts.ready_ok)
    × (nth_word ws 0 ≢ texts.best_move_word)
LineSays ws Resign = (nth_word ws 0 ≡ texts.best_move_word) × BestSays (nth_word ws 1) Resign
LineSays ws Win = (nth_word ws 0 ≡ texts.best_move_word) × BestSays (nth_word ws 1) Win
LineSays ws (Best text) =
    (nth_word ws 0 ≡ texts.best_move_word) × BestSays (nth_word ws 1) (Best text)

-- the text of Best; no other answer has one
abbrev pub text_in : EngineWord → Option (List ℕ)
text_in (Best text) = Some text.now
text_in Resign = None
text_in Win = None
text_in UsiOk = None
text_in ReadyOk = None
text_in Other = None
