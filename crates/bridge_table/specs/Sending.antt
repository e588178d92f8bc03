-- What a log says of the lines that its steps send.
use Rattle.std.specs.Prelude.{◌≡◌, ℕ, ◌++◌, ◌⊎◌, Bool, false, List, ◌∷◌, nat_eq, Option, Some, None, if◌then◌else◌}
use Rattle.std.specs.List.{starts_with, filter_map}
use Rattle.shogi_board.specs.declared.color.Color.{Color}
use Rattle.shogi_board.specs.Pieces.{same_color}
use Rattle.shogi_board.specs.declared.moves.Move.{Move}
use Rattle.shogi_board.specs.Legal.{Legal}
use Rattle.csa_text.specs.Codes.{move_text}
use Rattle.record_game.specs.Items.{AtMostOne}
use Rattle.bridge_table.specs.declared.config.Config.{Config}
use Rattle.bridge_table.specs.Asking.{MayAsk, AskLines}
use Rattle.session_lines.specs.LineTexts as texts
use Rattle.usi_text.specs.EngineTexts as usi_texts
use Rattle.bridge_table.specs.Logs.{Step, Moved, Confirmed, game_confirmed, answers}
use Rattle.bridge_table.specs.State.{Match, position_now}
use Rattle.bridge_table.specs.Summary.{Offer}

-- the match that a log gives: its offer, and the moves that it confirmed
abbrev pub match_stated : Offer → List Moved → Match
match_stated o moved = record { client = o.client; game = game_confirmed o moved; slip = false }

-- an answer that the log before it allows: `%TORYO`, `%KACHI`, or a legal move when the client is
-- to move in the confirmed game, the position has not occurred four times and there are fewer than
-- 10,000 moves
pub data IsAnswered (before : List Step) (line : List ℕ) : Type 0 where
  legal_move : (o : Offer) (moved : List Moved) (m : Move)
      → Confirmed before o moved → MayAsk (match_stated o moved)
      → Legal (position_now (match_stated o moved)) m
      → line ≡ move_text o.client m
      → IsAnswered before line
  toryo : line ≡ texts.toryo → IsAnswered before line
  kachi : line ≡ texts.kachi → IsAnswered before line

-- the text of a confirmed move by this side
abbrev pub own_text : Color → Moved → Option (List ℕ)
own_text client m =
    if same_color client m.color then Some (move_text m.color m.played.move) else None

abbrev pub own_texts : Color → List Moved → List (List ℕ)
own_texts client moved = filter_map (own_text client) moved

-- the answers of a log are the confirmed moves of the client's side, in order, and then at most one
-- that waits for confirmation
pub record OwnSent (log : List Step) (waiting : List (List ℕ)) : Type 0 where
  pub offer : Offer
  pub moved : List Moved
  pub confirmed : Confirmed log offer moved
  pub sent : answers log ≡ own_texts offer.client moved ++ waiting
  pub one : AtMostOne waiting

abbrev pub is_position_line : List ℕ → Bool
is_position_line line = starts_with nat_eq line usi_texts.position_front

-- the lines are the position line of the game that the log confirmed and the go line with its
-- clocks; at the start of play, `usinewgame` comes before them
pub record AskedRight (c : Config) (log : List Step) (lines : List (List ℕ)) : Type 0 where
  pub offer : Offer
  pub moved : List Moved
  pub confirmed : Confirmed log offer moved
  pub asked : List (List ℕ)
  pub of_game : AskLines c (match_stated offer moved) asked
  pub whole : (lines ≡ asked) ⊎ (lines ≡ usi_texts.new_game ∷ asked)

-- the lines are the first of the others, in order
abbrev pub IsPrefix : List (List ℕ) → List (List ℕ) → Type 0
IsPrefix front whole = (rest : List (List ℕ)) × (whole ≡ front ++ rest)
