-- A bridge that plays between its engine and its server.
use Rattle.std.specs.Prelude.{◌≡◌, ◌⊎◌, ◌≤◌, ◌+◌, ◌-◌, ◌^◌, ℕ, true, List, [], length, is_some}
use Rattle.bridge_table.specs.declared.event.Status.{Status}
use Rattle.bridge_table.specs.declared.event.Status.TheVariants.{Going}
use Rattle.bridge_table.specs.declared.state.Waits.{Waits}
use Rattle.bridge_table.specs.declared.state.Waits.TheVariants as waits
use Rattle.shogi_session.specs.Events.{Event, begin, engine_line, server_line, engine_end, server_end, engine_long, server_long}
use Rattle.shogi_session.specs.Promises.{Session, Steps}
use Rattle.shogi_session.specs.State.{waits_for}
use Rattle.record_commands.specs.Incoming.{Coming, GivesEnd, GivesLine, GivesLongLine, GivesNoLine}
use Rattle.record_commands.specs.declared.incoming.LineEvent.{LineEvent}
use Rattle.record_commands.specs.declared.incoming.LineEvent.TheVariants.{Line, End, Long, Failed}
use Rattle.session_commands.specs.declared.bridging.Peer.{Peer}
use Rattle.session_commands.specs.declared.bridging.Peer.TheVariants.{Engine, Server}

-- reading from a peer led from one state of both sides to another
abbrev pub Gives : Type 0 → Type 1
Gives E = E → Peer → Event → E → Type 0

-- sending these lines to a peer did
abbrev pub Takes : Type 0 → Type 1
Takes E = E → Peer → List ℕ → E → Type 0

-- an allocation that failed while reading from a peer did
abbrev pub Misses : Type 0 → Type 1
Misses E = E → Peer → E → Type 0

-- what came from a peer, as an event of the bridge
abbrev pub event_from : Peer → LineEvent → List ℕ → Event
event_from Engine Line line = engine_line line
event_from Engine End line = engine_end
event_from Engine Long line = engine_long
event_from Engine Failed line = engine_end
event_from Server Line line = server_line line
event_from Server End line = server_end
event_from Server Long line = server_long
event_from Server Failed line = server_end

-- a line of at most 65,536 bytes came
abbrev pub ComesLine : Coming → Coming → List ℕ → Type 0
ComesLine old new line = GivesLine old.bytes new.bytes line × (length line ≤ 65536)

-- the end came; or no line, and no more is read
abbrev pub ComesEnd : Coming → Coming → Type 0
ComesEnd old new =
    GivesEnd old.bytes new.bytes ⊎ (GivesNoLine old.bytes new.bytes × (is_some new.stop ≡ true))

-- what came from a peer, as an event of the bridge: from the engine only events of the engine, and
-- from the server only its own
abbrev pub Comes : Peer → Coming → Coming → Event → Type 0
Comes peer old new begin = ⊥
Comes Engine old new (engine_line line) = ComesLine old new line
Comes Engine old new (server_line line) = ⊥
Comes Engine old new engine_end = ComesEnd old new
Comes Engine old new server_end = ⊥
Comes Engine old new engine_long = GivesLongLine old.bytes new.bytes
Comes Engine old new server_long = ⊥
Comes Server old new (engine_line line) = ⊥
Comes Server old new (server_line line) = ComesLine old new line
Comes Server old new engine_end = ⊥
Comes Server old new server_end = ComesEnd old new
Comes Server old new engine_long = ⊥
Comes Server old new server_long = GivesLongLine old.bytes new.bytes

-- of one statement for each peer, the one for this peer
abbrev pub OfPeer : Peer → Type 0 → Type 0 → Type 0
OfPeer Engine engine server = engine
OfPeer Server engine server = server

-- of one value for each peer, the one for this peer
abbrev pub by_peer : {A : Type 0} → Peer → A → A → A
by_peer Engine engine server = engine
by_peer Server engine server = server

-- a peer is gone
abbrev pub end_of : Peer → Event
end_of Engine = engine_end
end_of Server = server_end

-- the peer that is read next
abbrev pub peer_for : Waits → Peer
peer_for waits.Engine = Engine
peer_for waits.Server = Server
peer_for waits.Nobody = Server

-- the lines for a peer: there are none, or it takes them, or it is gone, which is an event that the
-- bridge takes
pub data Delivers {E : Type 0} (went gone : Takes E) (peer : Peer) (lines : List ℕ)
    (e : E) (s : Session) (status : Status) (f : E) (t : Session) : Status → Type 0 where
  no_lines : lines ≡ [] → f ≡ e → t ≡ s → Delivers went gone peer lines e s status f t status
  taken : went e peer lines f → t ≡ s → Delivers went gone peer lines e s status f t status
  lost : (to_engine to_server : List ℕ) (after : Status)
      → gone e peer lines f → Steps s (end_of peer) to_engine to_server after t
      → Delivers went gone peer lines e s status f t after

-- the lines of a step: those to the engine first
pub record Sends {E : Type 0} (went gone : Takes E) (to_engine to_server : List ℕ)
    (e : E) (s : Session) (status : Status) (f : E) (t : Session) (after : Status) : Type 0 where
  pub between : E
  pub session : Session
  pub then_status : Status
  pub first : Delivers went gone Engine to_engine e s status between session then_status
  pub second : Delivers went gone Server to_server between session then_status f t after

-- an event is one step, and the lines of that step are sent
pub record Round {E : Type 0} (went gone : Takes E)
    (event : Event) (e : E) (s : Session) (f : E) (t : Session) (status : Status) : Type 0 where
  pub to_engine : List ℕ
  pub to_server : List ℕ
  pub stepped : Status
  pub session : Session
  pub step : Steps s event to_engine to_server stepped session
  pub sent : Sends went gone to_engine to_server e session stepped f t status

-- what passed from the first session on: its beginning, and then, while it goes on, what comes from
-- the peer that it waits for, one event for each round
pub data History {E : Type 0} (came : Gives E) (went gone : Takes E) (e : E) (s : Session)
    : E → Session → Status → Type 0 where
  begun : (f : E) (t : Session) (status : Status)
      → Round went gone begin e s f t status → History came went gone e s f t status
  goes_on : (f g h : E) (t u : Session) (event : Event) (status : Status)
      → History came went gone e s f t Going
      → came f (peer_for (waits_for t.state)) event g
      → Round went gone event g t h u status
      → History came went gone e s h u status

-- how many rounds passed
abbrev pub rounds : {E : Type 0} {came : Gives E} {went gone : Takes E} {e : E} {s : Session}
    {f : E} {t : Session} {status : Status} → History came went gone e s f t status → ℕ
rounds (begun f t status round) = 1
rounds (goes_on f g h t u event status played arrived round) = rounds played + 1

-- the session went on for 2 ^ 64 - 1 rounds
pub record IsEndless {E : Type 0}
    (came : Gives E) (went gone : Takes E) (e : E) (s : Session) : Type 0 where
  pub ends : E
  pub session : Session
  pub played : History came went gone e s ends session Going
  pub many : 2 ^ 64 - 1 ≤ rounds played
