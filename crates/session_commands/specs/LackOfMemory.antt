-- What holds of a bridge in a session if an allocation fails.
use Rattle.std.specs.Prelude.{◌≡◌, ℕ, List}
use Rattle.bridge_table.specs.declared.event.Status.{Status}
use Rattle.bridge_table.specs.declared.event.Status.TheVariants.{Going, Lost}
use Rattle.shogi_session.specs.Events.{Event, begin, trimmed}
use Rattle.shogi_session.specs.Promises.{KeepsGame, SameStates, Session, Steps}
use Rattle.shogi_session.specs.State.{slip_of, waits_for}
use Rattle.session_commands.specs.declared.bridging.Peer.{Peer}
use Rattle.session_commands.specs.declared.bridging.Peer.TheVariants.{Engine, Server}
use Rattle.session_commands.specs.Plays.{Delivers, Gives, Misses, History, Takes, end_of, peer_for}

-- in a step: the bridge is lost, both states stay, and its game is that before the event or with it
pub record StepRunsOut (s : Session) (event : Event) (t : Session) : Type 0 where
  pub going : s.state.status ≡ Going
  pub lost : t.state.status ≡ Lost
  pub config : t.config ≡ s.config
  pub states : SameStates s.state t.state
  pub slip : slip_of t.state.client ≡ slip_of s.state.client
  pub game : KeepsGame s.config s.state (trimmed event) t.state

-- in the step for a peer that did not take its lines
abbrev pub GoneRunsOut : {E : Type 0} → Takes E → Peer → List ℕ → E → Session → E → Session → Type 0
GoneRunsOut gone peer lines e s f t = gone e peer lines f × StepRunsOut s (end_of peer) t

-- while the lines of a step were sent, those to the engine first
pub data SendRunsOut {E : Type 0} (went gone : Takes E) (to_engine to_server : List ℕ)
    (e : E) (s : Session) (status : Status) (f : E) (t : Session) : Type 0 where
  engine_gone : GoneRunsOut gone Engine to_engine e s f t
      → SendRunsOut went gone to_engine to_server e s status f t
  server_gone : (g : E) (u : Session) (after : Status)
      → Delivers went gone Engine to_engine e s status g u after
      → GoneRunsOut gone Server to_server g u f t
      → SendRunsOut went gone to_engine to_server e s status f t

-- while the lines of the step of this event were sent
pub record RoundRunsOut {E : Type 0}
    (went gone : Takes E) (event : Event) (e : E) (s : Session) (f : E) (t : Session) : Type 0 where
  pub to_engine : List ℕ
  pub to_server : List ℕ
  pub stepped : Status
  pub session : Session
  pub step : Steps s event to_engine to_server stepped session
  pub unsent : SendRunsOut went gone to_engine to_server e session stepped f t

-- for what comes next from the peer that the bridge waits for, or in its step
pub data NextRunsOut {E : Type 0}
    (came : Gives E) (missed : Misses E) (e : E) (s : Session) (f : E) (t : Session) : Type 0 where
  none_came : missed e (peer_for (waits_for s.state)) f → t ≡ s → NextRunsOut came missed e s f t
  not_stepped : (event : Event) → came e (peer_for (waits_for s.state)) event f
      → StepRunsOut s event t → NextRunsOut came missed e s f t

-- in the beginning, or in what comes while the session goes on; or the bridge was lost before
pub data PlayRunsOut {E : Type 0} (came : Gives E) (missed : Misses E)
    (went gone : Takes E) (e : E) (s : Session) (f : E) (t : Session) : Type 0 where
  lost_before : History came went gone e s f t Lost → PlayRunsOut came missed went gone e s f t
  not_begun : f ≡ e → StepRunsOut s begin t → PlayRunsOut came missed went gone e s f t
  first_unsent : RoundRunsOut went gone begin e s f t → PlayRunsOut came missed went gone e s f t
  no_next : (g : E) (u : Session) → History came went gone e s g u Going
      → NextRunsOut came missed g u f t → PlayRunsOut came missed went gone e s f t
  later_unsent : (g h : E) (u : Session) (event : Event) → History came went gone e s g u Going
      → came g (peer_for (waits_for u.state)) event h
      → RoundRunsOut went gone event h u f t → PlayRunsOut came missed went gone e s f t
