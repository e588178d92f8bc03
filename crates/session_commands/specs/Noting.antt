-- What is kept of a session, to say at its end how it ended, by what passed.
use Rattle.std.specs.Prelude.{◌≡◌, List, ℕ, MatchOption}
use Rattle.bridge_table.specs.declared.event.Status.{Status}
use Rattle.record_commands.specs.declared.incoming.LineEvent.{LineEvent}
use Rattle.record_commands.specs.declared.incoming.LineEvent.TheVariants.{Line, End, Long, Failed}
use Rattle.session_commands.specs.Endings.{Ended, IsKeptAfter, with_long}
use Rattle.session_commands.specs.LackOfMemory.{PlayRunsOut, lost_before, not_begun, first_unsent, no_next, later_unsent}
use Rattle.session_commands.specs.Plays.{Gives, History, IsEndless, Misses, Takes, begun, event_from, goes_on, peer_for}
use Rattle.session_commands.specs.declared.bridging.Peer.{Peer}
use Rattle.session_commands.specs.declared.ending.Snapshot.{Snapshot}
use Rattle.shogi_session.specs.Events.{Event}
use Rattle.shogi_session.specs.Promises.{Session, Steps}
use Rattle.shogi_session.specs.State.{client_state, slip_of, summary, waits_for}
use Rattle.shogi_session.specs.Summary.{Offer, SummaryContent, TellsOffer}
use Rattle.shogi_session.specs.SummaryFaults.{HasSummaryFault}

-- how far a session's bridge is
pub record IsSnapshotOf (s : Session) (x : Snapshot) : Type 0 where
  pub client : x.client ≡ client_state s.state.client
  pub slip : x.slip ≡ slip_of s.state.client
  pub summary_fault : MatchOption x.summary
      ((h : SummaryContent) → s.state.client ≡ summary h → (o : Offer) × TellsOffer h o)
      (HasSummaryFault s.state.client)

-- what is kept after what came from a peer, if it led a bridge from one snapshot to another and to
-- this status
abbrev pub IsKeptOf : Snapshot → Snapshot → List ℕ → Peer → Status → Ended → Ended
    → LineEvent → Type 0
IsKeptOf before after line peer status old new Line =
    IsKeptAfter before after line peer status old new
IsKeptOf before after line peer status old new Long = new ≡ with_long peer old
IsKeptOf before after line peer status old new End = new ≡ old
IsKeptOf before after line peer status old new Failed = new ≡ old

-- what is kept after the step by which a session took an event that came from a peer
pub record KeepsEvent (s t : Session) (status : Status) (event : Event) (old new : Ended)
    : Type 0 where
  pub peer : Peer
  pub read : LineEvent
  pub line : List ℕ
  pub is_event : event ≡ event_from peer read line
  pub before : Snapshot
  pub after : Snapshot
  pub at_first : IsSnapshotOf s before
  pub at_last : IsSnapshotOf t after
  pub kept : IsKeptOf before after line peer status old new read

-- what is kept after these rounds: what came in each, one after another
abbrev pub KeptIn : {E : Type 0} {came : Gives E} {went gone : Takes E} {e : E} {s : Session}
    {f : E} {t : Session} {status : Status}
    → History came went gone e s f t status → Ended → Ended → Type 0
KeptIn (begun f t status round) old new = new ≡ old
KeptIn (goes_on f g h t u event status played arrived round) old new =
    (between : Ended) × KeptIn played old between
    × KeepsEvent t round.session round.stepped event between new

-- what passed, and what is kept of the end after it
pub record Noted {E : Type 0} (came : Gives E) (went gone : Takes E)
    (e : E) (s : Session) (old : Ended) (f : E) (t : Session) (new : Ended) (status : Status)
    : Type 0 where
  pub played : History came went gone e s f t status
  pub kept : KeptIn played old new

-- what is kept if an allocation failed: what came in the rounds before, and in the step whose lines
-- were not all sent; what has no step says nothing
abbrev pub KeptBefore : {E : Type 0} {came : Gives E} {missed : Misses E} {went gone : Takes E}
    {e : E} {s : Session} {f : E} {t : Session}
    → PlayRunsOut came missed went gone e s f t → Ended → Ended → Type 0
KeptBefore (lost_before played) old new = KeptIn played old new
KeptBefore (not_begun same lack) old new = new ≡ old
KeptBefore (first_unsent round) old new = new ≡ old
KeptBefore (no_next g u played lack) old new = KeptIn played old new
KeptBefore (later_unsent g h u event played arrived round) old new =
    (between : Ended) × KeptIn played old between
    × KeepsEvent u round.session round.stepped event between new

-- what passed before an allocation failed, and what is kept of the end after it
pub record NotedBefore {E : Type 0} (came : Gives E) (missed : Misses E) (went gone : Takes E)
    (e : E) (s : Session) (old : Ended) (f : E) (t : Session) (new : Ended) : Type 0 where
  pub lack : PlayRunsOut came missed went gone e s f t
  pub kept : KeptBefore lack old new

-- what comes from the peer that the bridge waits for is one step, and is kept if it says something
-- of the end
pub record ComesNext {E : Type 0} (came : Gives E) (e : E) (s : Session) (old : Ended)
    (to_engine to_server : List ℕ) (status : Status) (f : E) (t : Session) (new : Ended)
    : Type 0 where
  pub event : Event
  pub arrived : came e (peer_for (waits_for s.state)) event f
  pub step : Steps s event to_engine to_server status t
  pub kept : KeepsEvent s t status event old new

-- a session that went on for 2 ^ 64 - 1 rounds, the step after them, whose lines are not sent, and
-- what is kept of the end after it
pub record NotedEndless {E : Type 0} (came : Gives E) (went gone : Takes E)
    (e : E) (s : Session) (old : Ended) (f : E) (t : Session) (new : Ended) : Type 0 where
  pub endless : IsEndless came went gone e s
  pub between : Ended
  pub kept : KeptIn endless.played old between
  pub to_engine : List ℕ
  pub to_server : List ℕ
  pub status : Status
  pub next : ComesNext came endless.ends endless.session between to_engine to_server status f t new
