-- For private functions and fields of `Host`: the state that its own stage means, and what each
-- part of a step answers.
-- A reader of the public contracts may skip this file.
use Rattle.std.specs.Prelude.{◌≡◌, ℕ, ◌++◌, ◌∷◌, [], List, Some, None}
use Rattle.shogi_board.specs.declared.color.Color.{Color}
use Rattle.shogi_board.specs.declared.moves.Move.{Move}
use Rattle.shogi_rules.specs.Play.{Answers}
use Rattle.shogi_rules.specs.Positions.{Played}
use Rattle.csa_text.specs.Codes.{move_text}
use Rattle.host_and_sample.specs.declared.config.HostConfig.{HostConfig}
use Rattle.host_and_sample.specs.declared.outcome.Outcome.{Outcome}
use Rattle.host_and_sample.specs.declared.stage.HostStage.{HostStage}
use Rattle.host_and_sample.specs.declared.stage.HostStage.TheVariants.{Waiting, Offering, Playing, Decided, Ended}
use Rattle.host_and_sample.specs.Host.{HostState, waiting, offered, playing, decided, ended, HostMoves, IsWordAndOne, AfterSummary, AfterMove, outcome_lines, with_move}
use Rattle.session_lines.specs.LineTexts as texts
use Rattle.session_lines.specs.Texts.{text_of, with_time}

abbrev pub state_of : HostStage → HostState
state_of Waiting = waiting
state_of (Offering name) = offered name.items
state_of (Playing game) = playing game
state_of Decided = decided
state_of Ended = ended

-- the host moved, and its lines follow those before
abbrev pub MovesAfter : HostConfig → Played → List ℕ → List ℕ → HostState → Type 0
MovesAfter c g before text t =
    (more : List (List ℕ)) × HostMoves c g more t × (text ≡ before ++ text_of more)

-- the game began, and the bytes are those of its lines
abbrev pub Begins : HostConfig → List ℕ → HostState → Type 0
Begins c text t =
    (lines : List (List ℕ))
    × ((n line : List ℕ) → IsWordAndOne line texts.agree → AfterSummary c n line lines t)
    × (text ≡ text_of lines)

-- the client's move was the last of the game: its line, and then what ended the game, or the host's
-- move
pub data Follows (c : HostConfig) (g : Played) (line text : List ℕ) (t : HostState) : Type 0 where
  follows : (more : List (List ℕ)) → AfterMove c g None
      → HostMoves c g more t → text ≡ text_of (line ∷ more) → Follows c g line text t
  follows_last : (outcome : Outcome)
      → AfterMove c g (Some outcome) → text ≡ text_of (line ∷ outcome_lines c outcome) → t ≡ decided
      → Follows c g line text t

-- the client's move was tried
pub data Tries (c : HostConfig) (g : Played)
    (color : Color) (m : Move) (seconds : ℕ) (text : List ℕ) (t : HostState) : Type 0 where
  taken : Answers g color m None
      → Follows c (with_move g m) (with_time (move_text color m) seconds) text t
      → Tries c g color m seconds text t
  refused : (Answers g color m None → ⊥)
      → text ≡ text_of (texts.illegal_move ∷ texts.lose ∷ []) → t ≡ decided
      → Tries c g color m seconds text t

-- the host's move was the last of the game: what ended it, or the client is to move
pub data Rests (c : HostConfig) (g : Played) (before text : List ℕ) (t : HostState) : Type 0 where
  rests : AfterMove c g None → text ≡ before → t ≡ playing g → Rests c g before text t
  rests_last : (outcome : Outcome) → AfterMove c g (Some outcome)
      → text ≡ before ++ text_of (outcome_lines c outcome) → t ≡ decided
      → Rests c g before text t
