-- The states of a bridge.
use Rattle.std.specs.Prelude.{◌++◌, List, [], ◌∷◌, map, Bool, false, Option, None}
use Rattle.shogi_board.specs.declared.color.Color.{Color}
use Rattle.shogi_board.specs.Placed.{Placed}
use Rattle.bridge_table.specs.declared.state.Answer.{Answer}
use Rattle.shogi_rules.specs.Positions.{Played, now_of}
use Rattle.record_game.specs.Game.{Game, Timed, Ended, move_of}
use Rattle.bridge_table.specs.declared.event.Status.{Status}
use Rattle.bridge_table.specs.declared.event.Status.TheVariants as status
use Rattle.bridge_table.specs.declared.state.ClientState.{ClientState}
use Rattle.bridge_table.specs.declared.state.ClientState.TheVariants as clients
use Rattle.bridge_table.specs.declared.state.EngineState.{EngineState}
use Rattle.bridge_table.specs.declared.state.EngineState.TheVariants.{New, Greeting, Readying, Ready, Thinking, Ended as EngineEnded}
use Rattle.bridge_table.specs.declared.state.Waits.{Waits}
use Rattle.bridge_table.specs.declared.state.Waits.TheVariants.{Engine, Server, Nobody}
use Rattle.session_lines.specs.declared.server_words.GameResult.{GameResult}
use Rattle.session_lines.specs.declared.server_words.EndReason.{EndReason}
use Rattle.bridge_table.specs.Summary.{SummaryContent, Offer}

-- a match: the client's side; the game so far, with the moves of the summary first and then those
-- confirmed; and whether the engine slipped, which means that an answer was no legal move
pub record Match : Type 0 where
  pub client : Color
  pub game : Game
  pub slip : Bool

-- what the server has said of the end: the ending that is kept, and the reason
pub record Finish : Type 0 where
  pub kept : Option Ended
  pub reason : Option EndReason

abbrev pub nothing_stated : Finish
nothing_stated = record { kept = None; reason = None }

-- the client states, each with its values
pub data Client : Type 0 where
  idle : Client
  logging_in : Client
  -- Summary: before `BEGIN Game_Summary`, and after it with what counts of the lines since
  before_summary : Client
  summary : SummaryContent → Client
  agreeing : Offer → Client
  playing : Match → Client
  sent : Match → Answer → Client
  reason : Match → Finish → Client
  closing : Match → Finish → GameResult → Client
  ended : Match → Finish → GameResult → Client

pub record State : Type 0 where
  pub engine : EngineState
  pub client : Client
  pub status : Status

abbrev pub first_state : State
first_state = record { engine = New; client = idle; status = status.Going }

abbrev pub client_state : Client → ClientState
client_state idle = clients.Idle
client_state logging_in = clients.LoggingIn
client_state before_summary = clients.Summary
client_state (summary h) = clients.Summary
client_state (agreeing o) = clients.Agreeing
client_state (playing g) = clients.Playing
client_state (sent g answer) = clients.Sent
client_state (reason g f) = clients.Reason
client_state (closing g f o) = clients.Closing
client_state (ended g f o) = clients.Ended

-- Engine in Greeting, Readying, and in Thinking with Playing; Nobody in New; else Server
abbrev pub waits_going : EngineState → ClientState → Waits
waits_going New client = Nobody
waits_going Greeting client = Engine
waits_going Readying client = Engine
waits_going Ready client = Server
waits_going Thinking clients.Playing = Engine
waits_going Thinking clients.Idle = Server
waits_going Thinking clients.LoggingIn = Server
waits_going Thinking clients.Summary = Server
waits_going Thinking clients.Agreeing = Server
waits_going Thinking clients.Sent = Server
waits_going Thinking clients.Reason = Server
waits_going Thinking clients.Closing = Server
waits_going Thinking clients.Ended = Server
waits_going EngineEnded client = Server

abbrev pub waits_in : Status → EngineState → ClientState → Waits
waits_in status.Going engine client = waits_going engine client
waits_in status.Done engine client = Nobody
waits_in (status.Failed fault) engine client = Nobody
waits_in status.Lost engine client = Nobody

-- and Nobody in Done and Failed
abbrev pub waits_for : State → Waits
waits_for s = waits_in s.status s.engine (client_state s.client)

-- the match at the start of play; the moves of the summary count as confirmed
abbrev pub match_of : Offer → Match
match_of o = record { client = o.client; game = o.game; slip = false }

abbrev pub slip_of : Client → Bool
slip_of idle = false
slip_of logging_in = false
slip_of before_summary = false
slip_of (summary h) = false
slip_of (agreeing o) = false
slip_of (playing g) = g.slip
slip_of (sent g answer) = g.slip
slip_of (reason g f) = g.slip
slip_of (closing g f o) = g.slip
slip_of (ended g f o) = g.slip

abbrev pub match_line : Match → Played
match_line g = record { start = g.game.start; moves = map move_of g.game.moves }

abbrev pub position_now : Match → Placed
position_now g = now_of (match_line g)

abbrev pub game_with : Game → List Timed → Game
game_with g more = record g { moves = g.moves ++ more }

abbrev pub with_move : Match → Timed → Match
with_move g m = record g { game = game_with g.game (m ∷ []) }
