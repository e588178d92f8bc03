-- What the calls of a bridge promise.
use Rattle.std.specs.Prelude.{◌≡◌, ℕ, List, Option, Some, None}
use Rattle.csa_cutting.specs.Lines.{HasNoLineEnd}
use Rattle.record_game.specs.Canon.{canon}
use Rattle.record_game.specs.Game.{Game}
use Rattle.bridge_table.specs.declared.config.Config.{Config}
use Rattle.bridge_table.specs.declared.event.Event.{Event as Handed}
use Rattle.bridge_table.specs.declared.event.Event.TheVariants as handed
use Rattle.bridge_table.specs.declared.event.Status.{Status}
use Rattle.bridge_table.specs.Events.{Event, begin, engine_line, server_line, engine_end, server_end, engine_long, server_long, trimmed, Out}
use Rattle.bridge_table.specs.GameSoFar.{game_of}
use Rattle.bridge_table.specs.Row.{Row}
use Rattle.bridge_table.specs.State.{State, client_state}
use Rattle.session_lines.specs.Texts.{text_of}

-- the event, without the address of its line
abbrev pub event_of : Handed → Event
event_of handed.Begin = begin
event_of (handed.EngineLine line) = engine_line line.now
event_of (handed.ServerLine line) = server_line line.now
event_of handed.EngineEnd = engine_end
event_of handed.ServerEnd = server_end
event_of handed.EngineLong = engine_long
event_of handed.ServerLong = server_long

-- what callers must give: a line without CR and LF
abbrev pub HoldsLine : Event → Type 0
HoldsLine begin = Unit {0}
HoldsLine (engine_line line) = HasNoLineEnd line
HoldsLine (server_line line) = HasNoLineEnd line
HoldsLine engine_end = Unit {0}
HoldsLine server_end = Unit {0}
HoldsLine engine_long = Unit {0}
HoldsLine server_long = Unit {0}

-- a bridge, as contracts see it
pub record Session : Type 0 where
  pub config : Config
  pub state : State

-- a row leads by the event, without the spaces at the end of its line, from one to the other with
-- these lines
abbrev pub StepRow : Session → Event → Out → Session → Type 0
StepRow old e out new = Row old.config old.state (trimmed e) out new.state

-- a whole step that returns Ok: its row, whose lines it sends, and the status after it
pub record Steps (old : Session)
    (e : Event) (to_engine to_server : List ℕ) (status : Status) (new : Session) : Type 0 where
  pub out : Out
  pub row : StepRow old e out new
  pub config : new.config ≡ old.config
  pub engine_text : to_engine ≡ text_of out.to_engine
  pub server_text : to_server ≡ text_of out.to_server
  pub status_is : status ≡ new.state.status

-- the game of a state is that of another, or the one after a row for this event from it
pub data KeepsGame (c : Config) (s : State) (e : Event) (t : State) : Type 0 where
  before : game_of t.client ≡ game_of s.client → KeepsGame c s e t
  after : (out : Out) (u : State)
      → Row c s e out u → game_of t.client ≡ game_of u.client → KeepsGame c s e t

-- both states are the same, apart from their values
abbrev pub SameStates : State → State → Type 0
SameStates s t = (t.engine ≡ s.engine) × (client_state t.client ≡ client_state s.client)

-- the canonical text of the game, or none before a summary was accepted
pub data IsGameText (s : State) : Option (List ℕ) → Type 0 where
  no_game : game_of s.client ≡ None → IsGameText s None
  game_text : (g : Game) → game_of s.client ≡ Some g → IsGameText s (Some (canon g))
