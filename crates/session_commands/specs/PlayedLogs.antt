-- What passes between a bridge, its engine and its server, as a log of the bridge.
use Rattle.std.specs.Prelude.{◌≡◌, ℕ, ◌++◌, true, List, [], ◌∷◌, map}
use Rattle.std.specs.List.{AllByRecursion, flat_map, list_any}
use Rattle.csa_record.specs.Items.{AtMostOne}
use Rattle.bridge_table.specs.declared.config.Config.{Config}
use Rattle.bridge_table.specs.declared.event.Status.{Status}
use Rattle.shogi_session.specs.Events.{Event, begin, trimmed}
use Rattle.shogi_session.specs.Logs.{Leads, Step, event_in, is_answer, sent_lines}
use Rattle.shogi_session.specs.Promises.{Session}
use Rattle.shogi_session.specs.Sending.{IsAnswered, OwnSent}
use Rattle.shogi_session.specs.State.{State}
use Rattle.shogi_session.specs.Texts.{text_of}
use Rattle.session_commands.specs.declared.bridging.Peer.{Peer}
use Rattle.session_commands.specs.declared.bridging.Peer.TheVariants.{Engine, Server}
use Rattle.session_commands.specs.Plays.{Delivers, no_lines, taken, lost, Gives, History, begun, goes_on, Round, Takes, end_of}

-- a peer that did not take its lines is gone
abbrev pub lost_of : {E : Type 0} {went gone : Takes E} (peer : Peer) {lines : List ℕ} {e : E}
    {s : Session} {status : Status} {f : E} {t : Session} {after : Status}
    → Delivers went gone peer lines e s status f t after → List Event
lost_of peer (no_lines none same kept) = []
lost_of peer (taken took kept) = []
lost_of peer (lost to_engine to_server after missed step) = end_of peer ∷ []

-- what happened to the bridge in a round: its event, and which peers were gone
abbrev pub happened_in : {E : Type 0} {went gone : Takes E} (event : Event) {e : E} {s : Session}
    {f : E} {t : Session} {status : Status} → Round went gone event e s f t status → List Event
happened_in event round =
    event ∷ (lost_of Engine round.sent.first ++ lost_of Server round.sent.second)

-- what happened to it, in order
abbrev pub happened : {E : Type 0} {came : Gives E} {went gone : Takes E} {e : E} {s : Session}
    {f : E} {t : Session} {status : Status} → History came went gone e s f t status → List Event
happened (begun f t status round) = happened_in begin round
happened (goes_on f g h t u event status played arrived round) =
    happened played ++ happened_in event round

-- the bytes that a round sends a peer
abbrev pub sent_to : {E : Type 0} {went gone : Takes E} {event : Event} {e : E} {s : Session}
    {f : E} {t : Session} {status : Status} → Peer → Round went gone event e s f t status → List ℕ
sent_to Engine round = round.to_engine
sent_to Server round = round.to_server

-- the bytes that were sent to a peer, in order
abbrev pub handed : {E : Type 0} {came : Gives E} {went gone : Takes E} {e : E} {s : Session}
    {f : E} {t : Session} {status : Status} → Peer → History came went gone e s f t status → List ℕ
handed peer (begun f t status round) = sent_to peer round
handed peer (goes_on f g h t u event status played arrived round) =
    handed peer played ++ sent_to peer round

-- a log from the first state on: exactly this happened, and these bytes are its lines to the server
pub record IsLogOf (c : Config)
    (events : List Event) (bytes : List ℕ) (t : State) (log : List Step) : Type 0 where
  pub leads : Leads c log t
  pub happened_so : map event_in log ≡ map trimmed events
  pub handed_so : bytes ≡ text_of (flat_map sent_lines log)

-- an answer that a step sends the server is a legal move of the client's side in the game that the
-- log before it confirmed, or `%TORYO`, or `%KACHI`; no other line goes with it, and every answer
-- before it is confirmed
pub record AnswersWell (before : List Step) (step : Step) : Type 0 where
  pub legal : AllByRecursion
      (λ line. is_answer line ≡ true → IsAnswered before line) step.out.to_server
  pub alone : list_any is_answer step.out.to_server ≡ true
      → AtMostOne step.out.to_server × OwnSent before []

-- this holds for each step of the log
abbrev pub AllAnswerWell : List Step → Type 0
AllAnswerWell log =
    (before later : List Step) (step : Step)
    → log ≡ before ++ step ∷ later → AnswersWell before step

-- what happened and what was sent to the server is a log that only answers so
pub record PlaysLegally (c : Config)
    (events : List Event) (bytes : List ℕ) (t : State) : Type 0 where
  pub log : List Step
  pub log_of : IsLogOf c events bytes t log
  pub answers_well : AllAnswerWell log
