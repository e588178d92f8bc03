-- A bridge in a session in which an allocation fails.
use Rattle.std.proofs.Common.{◌≡◌, ℕ, List, Result, Ok, Err, OnErr, ap, refl, subst, sym, ◌∙◌}
use Rattle.bridge_table.specs.declared.event.Status.{Status}
use Rattle.bridge_table.specs.declared.event.Status.TheVariants.{Going, Lost}
use Rattle.bridge_table.specs.declared.state.Waits.{Waits}
use Rattle.shogi_session.specs.Events.{Event, trimmed}
use Rattle.shogi_session.specs.Promises.{KeepsGame, SameStates, Session}
use Rattle.shogi_session.specs.State.{slip_of, waits_for}
use Rattle.session_commands.specs.declared.bridging.Peer.{Peer}
use Rattle.shogi_board.specs.declared.memory.OutOfMemory.{OutOfMemory}
use Rattle.session_commands.specs.declared.bridging.Peer.TheVariants.{Engine, Server}
use Rattle.session_commands.specs.Plays.{Delivers, Gives, Misses, Takes, peer_for}
use Rattle.session_commands.specs.LackOfMemory.{GoneRunsOut, NextRunsOut, not_stepped, SendRunsOut, server_gone, StepRunsOut, first_unsent, later_unsent, lost_before, no_next}
use Rattle.session_commands.specs.Endings.{Ended}
use Rattle.session_commands.specs.Noting.{KeptIn, NotedBefore}
use Rattle.session_commands.proofs.Playing.{Answered, Rounds, first, later}

-- the clauses of a step in which an allocation fails, together
pub step_runs_out : (old : Session) (e f : Event) (new : Session) → e ≡ f
    → old.state.status ≡ Going → new.state.status ≡ Lost → new.config ≡ old.config → SameStates old.state new.state
    → slip_of new.state.client ≡ slip_of old.state.client → KeepsGame old.config old.state (trimmed e) new.state
    → StepRunsOut old f new
step_runs_out old e f new same going lost config states slip game =
    subst (λ x. StepRunsOut old x new) same (record { going = going; lost = lost; config = config; states = states; slip = slip; game = game })

-- what came from it has no step
pub peer_not_stepped : {E : Type 0} (came : Gives E) (missed : Misses E) (e : E) (s : Session) (peer : Peer) (waits : Waits) (event : Event) (f : E) (t : Session)
    → peer ≡ peer_for waits → waits ≡ waits_for s.state → came e peer event f → StepRunsOut s event t → NextRunsOut came missed e s f t
peer_not_stepped came missed e s peer waits event f t is_peer is_waits arrived lack =
    not_stepped event (subst (λ x. came e x event f) (is_peer ∙ ap peer_for is_waits) arrived) lack

-- the engine's lines were delivered, and the server did not take its own
pub server_lacks : {E : Type 0} (went gone : Takes E) (to_engine to_server engine_lines server_lines : List ℕ) (e : E) (s : Session) (status : Status) (g : E) (u : Session) (after : Status) (f : E) (t : Session) (answer : Result Status OutOfMemory)
    → engine_lines ≡ to_engine → server_lines ≡ to_server
    → Delivers went gone Engine engine_lines e s status g u after → OnErr answer (GoneRunsOut gone Server server_lines g u f t)
    → OnErr answer (SendRunsOut went gone to_engine to_server e s status f t)
server_lacks went gone to_engine to_server engine_lines server_lines e s status g u after f t (Ok x) is_engine is_server delivered lack = tt
server_lacks went gone to_engine to_server engine_lines server_lines e s status g u after f t (Err x) is_engine is_server delivered lack =
    server_gone g u after (subst (λ x. Delivers went gone Engine x e s status g u after) is_engine delivered) (subst (λ x. GoneRunsOut gone Server x g u f t) is_server lack)

-- the lines of a step were not all sent
pub unsent : {E : Type 0} (came : Gives E) (missed : Misses E) (went gone : Takes E) (e : E) (s : Session) (old : Ended) (to_engine to_server : List ℕ) (status : Status) (count : ℕ) (f : E) (t : Session) (new : Ended) (g : E) (u : Session)
    → Answered came went gone e s old to_engine to_server status count f t new → SendRunsOut went gone to_engine to_server f t status g u
    → NotedBefore came missed went gone e s old g u new
unsent came missed went gone e s old to_engine to_server status count f t new g u (first t' step) lack = record {
  lack = first_unsent (record { to_engine = to_engine; to_server = to_server; stepped = status; session = t; step = step; unsent = lack });
  kept = refl;
}
unsent came missed went gone e s old to_engine to_server status count f t new g u (later f' g' t' u' between new' event played kept arrived step notes) lack = record {
  lack = later_unsent f' f t' event played arrived (record { to_engine = to_engine; to_server = to_server; stepped = status; session = t; step = step; unsent = lack });
  kept = (between, kept, notes);
}

-- nothing came after the rounds that passed
pub not_next : {E : Type 0} (came : Gives E) (missed : Misses E) (went gone : Takes E) (e : E) (s : Session) (old : Ended) (count : ℕ) (f : E) (t : Session) (new : Ended) (g : E) (u : Session) (last : Ended)
    → Rounds came went gone e s old count f t new Going → NextRunsOut came missed f t g u → last ≡ new → NotedBefore came missed went gone e s old g u last
not_next came missed went gone e s old count f t new g u last rounds lack same = record {
  lack = no_next f t rounds.noted.played lack;
  kept = subst (λ x. KeptIn rounds.noted.played old x) (sym same) rounds.noted.kept;
}

-- the bridge was lost in the rounds that passed
pub rounds_lost : {E : Type 0} (came : Gives E) (missed : Misses E) (went gone : Takes E) (e : E) (s : Session) (old : Ended) (count : ℕ) (f : E) (t : Session) (new : Ended)
    → Rounds came went gone e s old count f t new Lost → NotedBefore came missed went gone e s old f t new
rounds_lost came missed went gone e s old count f t new rounds = record { lack = lost_before rounds.noted.played; kept = rounds.noted.kept }
