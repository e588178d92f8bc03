-- Logs of a bridge, and what is read from their lines alone.
use Rattle.std.specs.Prelude.{◌≡◌, ◌↔◌, ℕ, ◌++◌, ◌⊎◌, ◌||◌, Bool, true, false, List, [], ◌∷◌, filter, find, nat_eq, bytes_eq, flat_map, filter_map, map, Option, Some, None, if◌then◌else◌}
use Rattle.std.specs.List.{AllByRecursion, AllZip, starts_with, list_any}
use Rattle.shogi_board.specs.declared.color.Color.{Color}
use Rattle.record_game.specs.Game.{Timed, Ended, Game}
use Rattle.bridge_table.specs.declared.config.Config.{Config}
use Rattle.bridge_table.specs.declared.event.Status.{Status}
use Rattle.bridge_table.specs.declared.event.Status.TheVariants.{Going, Done, Failed, Lost}
use Rattle.bridge_table.specs.Events.{Event, begin, engine_line, server_line, engine_end, server_end, engine_long, server_long, Out}
use Rattle.bridge_table.specs.GameSoFar.{ending_of, game_of}
use Rattle.session_lines.specs.LineTexts as texts
use Rattle.session_lines.specs.MoveLines.{is_move_line}
use Rattle.bridge_table.specs.Row.{Row}
use Rattle.session_lines.specs.declared.server_words.GameResult.{GameResult}
use Rattle.session_lines.specs.declared.server_words.EndReason.{EndReason}
use Rattle.session_lines.specs.ServerLines.{is_login_ok, is_start_line, is_ending_line, is_hash_line, TellsTimed, TellsEnding, outcome_of, reason_of}
use Rattle.bridge_table.specs.State.{Client, State, first_state, game_with}
use Rattle.bridge_table.specs.Summary.{Offer, TellsSummary}

-- one call of step: the event, without the spaces at the end of its line; the lines; the status
pub record Step : Type 0 where
  pub event : Event
  pub out : Out
  pub status : Status

abbrev pub event_in : Step → Event
event_in step = step.event

-- calls of step one after another, each a row, from New on
pub data Leads (c : Config) : List Step → State → Type 0 where
  new : Leads c [] first_state
  next : (log : List Step) (s : State) (e : Event) (out : Out) (t : State)
      → Leads c log s → Row c s e out t
      → Leads c (log ++ (record { event = e; out = out; status = t.status }) ∷ []) t

-- 1. Lines
-- a step that faults, and each step after it, has the status of the fault
abbrev pub is_sound : Status → Bool
is_sound Going = true
is_sound Done = true
is_sound (Failed fault) = false
is_sound Lost = false

abbrev pub is_counted : Step → Bool
is_counted step = is_sound step.status

-- an event that faults, and every event after it, is not counted
abbrev pub counted : List Step → List Step
counted log = filter is_counted log

abbrev pub server_text : Event → Option (List ℕ)
server_text begin = None
server_text (engine_line line) = None
server_text (server_line line) = Some line
server_text engine_end = None
server_text server_end = None
server_text engine_long = None
server_text server_long = None

abbrev pub from_server : Step → Option (List ℕ)
from_server step = server_text step.event

abbrev pub server_lines : List Step → List (List ℕ)
server_lines log = filter_map from_server log

abbrev pub passes : (List ℕ → Bool) → Option (List ℕ) → Bool
passes test None = false
passes test (Some line) = test line

-- the step received such a line from the server
abbrev pub hears : (List ℕ → Bool) → Step → Bool
hears test step = passes test (from_server step)

-- the step sent the server a line that begins like this
abbrev pub sends : List ℕ → Step → Bool
sends text step = list_any (λ line. starts_with nat_eq line text) step.out.to_server

-- the elements after the first that passes the test; none if none passes
abbrev pub following : {X : Type 0} → (X → Bool) → List X → List X
following test [] = []
following test (x ∷ xs) = if test x then xs else following test xs

-- the elements before it; all if none passes
abbrev pub ahead : {X : Type 0} → (X → Bool) → List X → List X
ahead test [] = []
ahead test (x ∷ xs) = if test x then [] else x ∷ ahead test xs

abbrev pub is_begin_line : List ℕ → Bool
is_begin_line line = bytes_eq line texts.begin_summary

-- the steps after the one that sent LOGIN; of these, those after the `LOGIN:` .. ` OK` line
abbrev pub after_login : List Step → List Step
after_login log = following (hears is_login_ok) (following (sends texts.login_front) log)

-- the lines of the summary: of these steps, those after `BEGIN Game_Summary` and before the one
-- that is answered with AGREE
abbrev pub summary_lines : List Step → List (List ℕ)
summary_lines log =
    server_lines (following (hears is_begin_line)
    (after_login (ahead (sends texts.agree) (counted log))))

-- the lines after the first `START:` line that follows AGREE
abbrev pub started_lines : List Step → List (List ℕ)
started_lines log =
    server_lines (following (hears is_start_line) (following (sends texts.agree) (counted log)))

-- a readable ending
abbrev pub IsEnding : List ℕ → Type 0
IsEnding line = (is_ending_line line ≡ true) × (e : Ended) × TellsEnding line e

-- play ends at a readable ending or a line that begins with `#`, or has not ended
abbrev pub EndsPlay : List (List ℕ) → Type 0
EndsPlay [] = Unit {0}
EndsPlay (line ∷ lines) = IsEnding line ⊎ (is_hash_line line ≡ true)

pub record IsWithinPlay (line : List ℕ) : Type 0 where
  pub no_ending : IsEnding line → ⊥
  pub no_hash : is_hash_line line ≡ false

-- the lines of play, and the lines from its end on
pub record Splits (lines taken rest : List (List ℕ)) : Type 0 where
  pub whole : lines ≡ taken ++ rest
  pub goes_on : AllByRecursion IsWithinPlay taken
  pub ends : EndsPlay rest

-- the lines of play of a log, and those from its end on
abbrev pub Taken : List Step → List (List ℕ) → List (List ℕ) → Type 0
Taken log taken rest = Splits (started_lines log) taken rest

-- 2. Confirmed: the offer with the moves of its summary, and then the moves that lines of play
-- spell
pub record Moved : Type 0 where
  pub color : Color
  pub played : Timed

abbrev pub timed_of : Moved → Timed
timed_of m = m.played

abbrev pub IsMoved : List ℕ → Moved → Type 0
IsMoved line m = TellsTimed line m.color m.played

-- the summary was answered with AGREE, and described this offer; the lines of play spell these
-- moves
pub record Confirmed (log : List Step) (o : Offer) (moved : List Moved) : Type 0 where
  pub agreed : list_any (sends texts.agree) (counted log) ≡ true
  pub stated : TellsSummary (summary_lines log) o
  pub taken : List (List ℕ)
  pub rest : List (List ℕ)
  pub lines_are : Taken log taken rest
  pub spelt : AllZip IsMoved (filter is_move_line taken) moved

abbrev pub game_confirmed : Offer → List Moved → Game
game_confirmed o moved = game_with o.game (map timed_of moved)

-- 3. Answers: the lines to the server that begin with `+`, `-` or `%`: a move, `%TORYO` or `%KACHI`
abbrev pub is_answer : List ℕ → Bool
is_answer line = is_move_line line || is_ending_line line

abbrev pub sent_lines : Step → List (List ℕ)
sent_lines step = step.out.to_server

abbrev pub answers : List Step → List (List ℕ)
answers log = filter is_answer (flat_map sent_lines log)

-- 4. The game: the kept ending is the one that ends play; the reason is the first `#` line, unless
-- that is the result
abbrev pub IsKeptEnding : List (List ℕ) → Option Ended → Type 0
IsKeptEnding [] kept = kept ≡ None
IsKeptEnding (line ∷ lines) None = IsEnding line → ⊥
IsKeptEnding (line ∷ lines) (Some e) = (is_ending_line line ≡ true) × TellsEnding line e

abbrev pub first_outcome : List GameResult → Option GameResult
first_outcome [] = None
first_outcome (o ∷ os) = Some o

abbrev pub result_in : List (List ℕ) → Option GameResult
result_in lines = first_outcome (filter_map outcome_of lines)

abbrev pub reason_by : List ℕ → Option GameResult → Option EndReason
reason_by line None = Some (reason_of line)
reason_by line (Some o) = None

abbrev pub reason_at : Option (List ℕ) → Option EndReason
reason_at None = None
reason_at (Some line) = reason_by line (outcome_of line)

abbrev pub reason_in : List (List ℕ) → Option EndReason
reason_in lines = reason_at (find is_hash_line lines)

-- the confirmed game, and how it ended
pub record GameOf (log : List Step) (g : Game) : Type 0 where
  pub offer : Offer
  pub moved : List Moved
  pub confirmed : Confirmed log offer moved
  pub kept : Option Ended
  pub keeps : IsKeptEnding confirmed.rest kept
  pub game : g ≡ record (game_confirmed offer moved) {
    ending = ending_of offer.client kept (reason_in confirmed.rest) (result_in confirmed.rest);
  }

-- the game that a bridge has played so far is that of the log; it has none if the log has none
abbrev pub TellsGame : Client → List Step → Type 0
TellsGame client log = (g : Game) → (game_of client ≡ Some g) ↔ GameOf log g
