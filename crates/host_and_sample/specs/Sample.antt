-- What the sample engine answers.
use Rattle.std.specs.Prelude.{◌≡◌, ℕ, ◌++◌, ◌⊎◌, List, [], ◌∷◌, Option, Some, None}
use Rattle.shogi_board.specs.declared.moves.Move.{Move}
use Rattle.shogi_rules.specs.Order.{IsFirstLegal}
use Rattle.shogi_rules.specs.Positions.{Played, now_of, Over}
use Rattle.shogi_rules.specs.Verdicts.{NoLegalMove}
use Rattle.usi_text.specs.Lines.{UsiLine}
use Rattle.usi_text.specs.Moves.{UsiMove}
use Rattle.usi_text.specs.Words.{words, nth_word}
use Rattle.usi_text.specs.EngineTexts as usi_texts
use Rattle.session_lines.specs.Texts.{text_of}

-- the game that it keeps, if any; or it has quit
pub data SampleState : Type 0 where
  keeps : Option Played → SampleState
  quit : SampleState

-- it has no move: no game is kept, there is no legal move, or the position has occurred four times
abbrev pub HasNoMove : Option Played → Type 0
HasNoMove None = Unit {0}
HasNoMove (Some g) = NoLegalMove (now_of g) ⊎ Over g

-- the word is the first legal move of a position that has not occurred four times
pub record IsBest (g : Played) (word : List ℕ) : Type 0 where
  pub best : Move
  pub first : IsFirstLegal (now_of g) best
  pub not_over : Over g → ⊥
  pub text : UsiMove (now_of g) word best

-- the line is that one word
abbrev pub IsWord : List ℕ → List ℕ → Type 0
IsWord line word = words line ≡ word ∷ []

-- this is its first word
abbrev pub BeginsWith : List ℕ → List ℕ → Type 0
BeginsWith line word = nth_word (words line) 0 ≡ word

-- the game that a position line spells, or none if it spells none
abbrev pub IsGameOf : List ℕ → Option Played → Type 0
IsGameOf line (Some g) = UsiLine (words line) g.start g.moves
IsGameOf line None = (g : Played) → UsiLine (words line) g.start g.moves → ⊥

-- the table: a line to an engine that keeps a game or none, the lines of its answer, and its state
-- afterwards
pub data SampleTableRow (kept : Option Played)
    (line : List ℕ) (lines : List (List ℕ)) (t : SampleState) : Type 0 where
  usi :
      IsWord line usi_texts.usi
      → lines ≡ usi_texts.id_name ∷ usi_texts.id_author ∷ usi_texts.usi_ok ∷ [] → t ≡ keeps kept
      → SampleTableRow kept line lines t
  isready :
      IsWord line usi_texts.is_ready
      → lines ≡ usi_texts.ready_ok ∷ [] → t ≡ keeps kept
      → SampleTableRow kept line lines t
  position : (stated : Option Played)
      → BeginsWith line usi_texts.position → IsGameOf line stated
      → lines ≡ [] → t ≡ keeps stated
      → SampleTableRow kept line lines t
  go : (g : Played) (word : List ℕ)
      → BeginsWith line usi_texts.go → kept ≡ Some g → IsBest g word
      → lines ≡ (usi_texts.best_move ++ word) ∷ [] → t ≡ keeps kept
      → SampleTableRow kept line lines t
  go_resign :
      BeginsWith line usi_texts.go → HasNoMove kept
      → lines ≡ usi_texts.no_best_move ∷ [] → t ≡ keeps kept
      → SampleTableRow kept line lines t
  quits :
      IsWord line usi_texts.quit
      → lines ≡ [] → t ≡ quit
      → SampleTableRow kept line lines t

-- no row applies to the line
abbrev pub HasNoSampleRow : Option Played → List ℕ → Type 0
HasNoSampleRow kept line =
    (lines : List (List ℕ)) (t : SampleState) → SampleTableRow kept line lines t → ⊥

-- a row of the table; or no row applies to the line, the answer is empty and nothing changes; or it
-- has quit, and no line is answered
pub data SampleRow (s : SampleState)
    (line : List ℕ) (lines : List (List ℕ)) (t : SampleState) : Type 0 where
  in_table : (kept : Option Played)
      → s ≡ keeps kept → SampleTableRow kept line lines t
      → SampleRow s line lines t
  skipped : (kept : Option Played)
      → s ≡ keeps kept → HasNoSampleRow kept line → lines ≡ [] → t ≡ s
      → SampleRow s line lines t
  over : s ≡ quit → lines ≡ [] → t ≡ s → SampleRow s line lines t

-- the bytes are those of the lines of a row
abbrev pub SampleRowText : SampleState → List ℕ → List ℕ → SampleState → Type 0
SampleRowText s line text t =
    (lines : List (List ℕ)) × SampleRow s line lines t × (text ≡ text_of lines)
