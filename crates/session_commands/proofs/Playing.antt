-- A bridge that plays, round after round.
use Rattle.std.proofs.Common.{◌≡◌, ◌≤◌, ◌+◌, ◌-◌, ◌^◌, ℕ, List, Err, IsErrOf, ap, arith, refl, subst, ◌∙◌}
use Rattle.bridge_table.specs.declared.event.Status.{Status}
use Rattle.bridge_table.specs.declared.event.Status.TheVariants.{Going}
use Rattle.bridge_table.specs.declared.fault.SessionFault.{SessionFault}
use Rattle.bridge_table.specs.declared.state.Waits.{Waits}
use Rattle.shogi_session.specs.Events.{Event, Out, begin}
use Rattle.shogi_session.specs.Promises.{Session, StepRow, Steps}
use Rattle.shogi_session.specs.State.{waits_for}
use Rattle.shogi_session.specs.Texts.{text_of}
use Rattle.session_commands.specs.declared.bridging.Peer.{Peer}
use Rattle.session_setup.specs.declared.fault.MatchFault.{MatchFault}
use Rattle.session_setup.specs.declared.fault.MatchFault.TheVariants as fault
use Rattle.record_commands.specs.declared.incoming.LineEvent.{LineEvent}
use Rattle.session_commands.specs.Endings.{Ended}
use Rattle.session_commands.specs.Noting.{IsKeptOf, IsSnapshotOf, KeepsEvent, KeptIn, Noted}
use Rattle.session_commands.specs.Noting.{ComesNext, NotedEndless}
use Rattle.session_commands.specs.declared.ending.Snapshot.{Snapshot}
use Rattle.session_commands.specs.Plays.{Gives, History, Sends, Takes, event_from, rounds, peer_for, begun, goes_on}

-- a step whose lines are not sent yet, after this number of rounds, and what is kept of the end
pub data Answered {E : Type 0} (came : Gives E) (went gone : Takes E) (e : E) (s : Session) (old : Ended) (to_engine to_server : List ℕ) (status : Status) : ℕ → E → Session → Ended → Type 0 where
  first : (t : Session) → Steps s begin to_engine to_server status t → Answered came went gone e s old to_engine to_server status 0 e t old
  later : (f g : E) (t u : Session) (between new : Ended) (event : Event)
      → (played : History came went gone e s f t Going)
      → KeptIn played old between
      → came f (peer_for (waits_for t.state)) event g
      → Steps t event to_engine to_server status u
      → KeepsEvent t u status event between new
      → Answered came went gone e s old to_engine to_server status (rounds played) g u new

-- the clauses of a step that returns Ok, together
pub steps_of : (old : Session) (e : Event) (to_engine to_server : List ℕ) (status : Status) (new : Session)
    → ((out : Out) × StepRow old e out new)
    → ((out : Out) → StepRow old e out new → to_engine ≡ text_of out.to_engine)
    → ((out : Out) → StepRow old e out new → to_server ≡ text_of out.to_server)
    → status ≡ new.state.status → new.config ≡ old.config
    → Steps old e to_engine to_server status new
steps_of old e to_engine to_server status new row engine_text server_text status_is config =
    record { out = row.0; row = row.1; config = config; engine_text = engine_text row.0 row.1; server_text = server_text row.0 row.1; status_is = status_is }

-- the same event
pub same_step : (old : Session) (e f : Event) (to_engine to_server : List ℕ) (status : Status) (new : Session)
    → e ≡ f → Steps old e to_engine to_server status new → Steps old f to_engine to_server status new
same_step old e f to_engine to_server status new same step = subst (λ x. Steps old x to_engine to_server status new) same step

-- what comes from the peer that the bridge waits for is its next step
pub comes_next : {E : Type 0} (came : Gives E) (e : E) (s : Session) (old : Ended) (peer : Peer) (waits : Waits) (what : LineEvent) (line : List ℕ) (f : E) (to_engine to_server : List ℕ) (status : Status) (t : Session) (new : Ended) (before after : Snapshot)
    → peer ≡ peer_for waits → waits ≡ waits_for s.state
    → came e peer (event_from peer what line) f → Steps s (event_from peer what line) to_engine to_server status t
    → IsSnapshotOf s before → IsSnapshotOf t after → IsKeptOf before after line peer status old new what
    → ComesNext came e s old to_engine to_server status f t new
comes_next came e s old peer waits what line f to_engine to_server status t new before after is_peer is_waits arrived step at_first at_last kept = record {
  event = event_from peer what line;
  arrived = subst (λ x. came e x (event_from peer what line) f) (is_peer ∙ ap peer_for is_waits) arrived;
  step = step;
  kept = record {
    peer = peer;
    read = what;
    line = line;
    is_event = refl;
    before = before;
    after = after;
    at_first = at_first;
    at_last = at_last;
    kept = kept;
  };
}

-- the rounds that passed, one more with this one
pub record Rounds {E : Type 0} (came : Gives E) (went gone : Takes E) (e : E) (s : Session) (old : Ended) (count : ℕ) (f : E) (t : Session) (new : Ended) (status : Status) : Type 0 where
  pub noted : Noted came went gone e s old f t new status
  pub counted : rounds noted.played ≡ count + 1

-- the lines of a step are sent, which ends its round
pub round_counted : {E : Type 0} (came : Gives E) (went gone : Takes E) (e : E) (s : Session) (old : Ended) (to_engine to_server : List ℕ) (status : Status) (count : ℕ) (f : E) (t : Session) (new : Ended) (g : E) (u : Session) (found : Status)
    → Answered came went gone e s old to_engine to_server status count f t new → Sends went gone to_engine to_server f t status g u found
    → Rounds came went gone e s old count g u new found
round_counted came went gone e s old to_engine to_server status count f t new g u found (first t' step) sent = record {
  noted = record {
    played = begun g u found (record { to_engine = to_engine; to_server = to_server; stepped = status; session = t; step = step; sent = sent });
    kept = refl;
  };
  counted = refl;
}
round_counted came went gone e s old to_engine to_server status count f t new g u found (later f' g' t' u' between new' event played kept arrived step notes) sent = record {
  noted = record {
    played = goes_on f' f g t' u event found played arrived (record { to_engine = to_engine; to_server = to_server; stepped = status; session = t; step = step; sent = sent });
    kept = (between, kept, notes);
  };
  counted = refl;
}

pub round_sent : {E : Type 0} (came : Gives E) (went gone : Takes E) (e : E) (s : Session) (old : Ended) (to_engine to_server : List ℕ) (status : Status) (count : ℕ) (f : E) (t : Session) (new : Ended) (g : E) (u : Session) (found after : Status)
    → found ≡ after
    → Answered came went gone e s old to_engine to_server status count f t new → Sends went gone to_engine to_server f t status g u found
    → Rounds came went gone e s old count g u new after
round_sent came went gone e s old to_engine to_server status count f t new g u found after is answered sent =
    subst (λ x. Rounds came went gone e s old count g u new x) is (round_counted came went gone e s old to_engine to_server status count f t new g u found answered sent)

-- and while the session goes on, the next event is the next step
pub round_begun : {E : Type 0} (came : Gives E) (went gone : Takes E) (e : E) (s : Session) (old : Ended) (count : ℕ) (f : E) (t : Session) (between : Ended) (to_engine to_server : List ℕ) (status : Status) (g : E) (u : Session) (new : Ended)
    → Rounds came went gone e s old count f t between Going → ComesNext came f t between to_engine to_server status g u new
    → Answered came went gone e s old to_engine to_server status (count + 1) g u new
round_begun came went gone e s old count f t between to_engine to_server status g u new rounds next =
    subst (λ n. Answered came went gone e s old to_engine to_server status n g u new) rounds.counted
    (later f g t u between new next.event rounds.noted.played rounds.noted.kept next.arrived next.step next.kept)

-- the rounds of a session that is not ended by them, and the step after them
pub endless_noted : {E : Type 0} (came : Gives E) (went gone : Takes E) (e : E) (s : Session) (old : Ended) (to_engine to_server : List ℕ) (status : Status) (count : ℕ) (f : E) (t : Session) (new : Ended)
    → Answered came went gone e s old to_engine to_server status count f t new → 2 ^ 64 - 1 ≤ count
    → NotedEndless came went gone e s old f t new
endless_noted came went gone e s old to_engine to_server status count f t new (first t' step) many = absurd (omega (arith, many))
endless_noted came went gone e s old to_engine to_server status count f t new (later f' g' t' u' between new' event played kept arrived step notes) many = record {
  endless = record { ends = f'; session = t'; played = played; many = many };
  between = between;
  kept = kept;
  to_engine = to_engine;
  to_server = to_server;
  status = status;
  next = record { event = event; arrived = arrived; step = step; kept = notes };
}

pub same_session_fault : {T : Type 0} (f g : SessionFault) → IsErrOf {T = T} {E = MatchFault} (Err (fault.Session f)) (fault.Session g) → f ≡ g
same_session_fault f g same = cc
