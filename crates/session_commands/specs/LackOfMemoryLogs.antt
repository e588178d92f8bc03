-- What was sent to the server in a session in which an allocation fails, as a log of the bridge,
-- and what passed in it, as a log notes it.
use Rattle.std.specs.Prelude.{ℕ, ◌++◌, List, [], ◌∷◌}
use Rattle.bridge_table.specs.declared.config.Config.{Config}
use Rattle.bridge_table.specs.declared.event.Status.{Status}
use Rattle.shogi_session.specs.Events.{Event, begin}
use Rattle.shogi_session.specs.Promises.{Session}
use Rattle.shogi_session.specs.State.{State}
use Rattle.session_commands.specs.declared.bridging.Peer.TheVariants.{Engine, Server}
use Rattle.session_commands.specs.Logging.{Entry, came_in, passed, taken_of}
use Rattle.session_commands.specs.PlayedLogs.{PlaysLegally, handed, happened, lost_of}
use Rattle.session_commands.specs.Plays.{Gives, Misses, History, Takes}
use Rattle.session_commands.specs.LackOfMemory.{NextRunsOut, PlayRunsOut, SendRunsOut, engine_gone, server_gone, none_came, not_stepped, lost_before, not_begun, first_unsent, no_next, later_unsent}

-- what happened in steps that were not refused, the bytes that were sent to the server, in order,
-- and the state after the last of these steps
pub record Sent : Type 0 where
  pub events : List Event
  pub bytes : List ℕ
  pub state : State

abbrev pub nothing_sent : Session → Sent
nothing_sent s = record { events = []; bytes = []; state = s.state }

abbrev pub sent_in : {E : Type 0} {came : Gives E} {went gone : Takes E} {e : E} {s : Session}
    {f : E} {status : Status} (t : Session) → History came went gone e s f t status → Sent
sent_in t played =
    record { events = happened played; bytes = handed Server played; state = t.state }

-- and with the lines of one more step, which were not all taken; if the engine did not take its
-- own, nothing was sent to the server
abbrev pub sent_with : {E : Type 0} {went gone : Takes E} {to_engine : List ℕ} {e : E}
    {s : Session} {status : Status} {f : E} {t : Session} (before : Sent) (event : Event)
    (to_server : List ℕ) → SendRunsOut went gone to_engine to_server e s status f t → Sent
sent_with before event to_server (engine_gone lack) = before
sent_with before event to_server (server_gone g u after delivered lack) = record {
  events = before.events ++ event ∷ lost_of Engine delivered;
  bytes = before.bytes ++ to_server;
  state = u.state;
}

-- what was sent before an allocation failed
abbrev pub sent_before : {E : Type 0} {came : Gives E} {missed : Misses E} {went gone : Takes E}
    {e : E} {f : E} (s t : Session) → PlayRunsOut came missed went gone e s f t → Sent
sent_before s t (lost_before played) = sent_in t played
sent_before s t (not_begun same lack) = nothing_sent s
sent_before s t (first_unsent round) =
    sent_with (nothing_sent s) begin round.to_server round.unsent
sent_before s t (no_next g u played lack) = sent_in u played
sent_before s t (later_unsent g h u event played arrived round) =
    sent_with (sent_in u played) event round.to_server round.unsent

-- it is a log that only answers legally
abbrev pub SentLegally : Config → Sent → Type 0
SentLegally c sent = PlaysLegally c sent.events sent.bytes sent.state

-- the lines that the engine took in a step whose lines were not all taken
abbrev pub taken_before : {E : Type 0} {went gone : Takes E} (to_engine : List ℕ)
    {to_server : List ℕ} {e : E} {s : Session} {status : Status} {f : E} {t : Session}
    → SendRunsOut went gone to_engine to_server e s status f t → List Entry
taken_before to_engine (engine_gone lack) = []
taken_before to_engine (server_gone g u after delivered lack) = taken_of Engine to_engine delivered

-- the line that came but whose step failed, if there was one
abbrev pub came_before : {E : Type 0} {came : Gives E} {missed : Misses E} {e : E} {s : Session}
    {f : E} {t : Session} → NextRunsOut came missed e s f t → List Entry
came_before (none_came missed same) = []
came_before (not_stepped event arrived lack) = came_in event

-- what passed before an allocation failed, in order
abbrev pub passed_before : {E : Type 0} {came : Gives E} {missed : Misses E} {went gone : Takes E}
    {e : E} {s : Session} {f : E} {t : Session}
    → PlayRunsOut came missed went gone e s f t → List Entry
passed_before (lost_before played) = passed played
passed_before (not_begun same lack) = []
passed_before (first_unsent round) = taken_before round.to_engine round.unsent
passed_before (no_next g u played lack) = passed played ++ came_before lack
passed_before (later_unsent g h u event played arrived round) =
    passed played ++ (came_in event ++ taken_before round.to_engine round.unsent)
