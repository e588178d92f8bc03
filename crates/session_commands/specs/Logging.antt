-- What passed between a bridge, its engine and its server, as a log notes it.
use Rattle.std.specs.Prelude.{◌≡◌, ◌++◌, ℕ, List, [], ◌∷◌, Option, None, Some}
use Rattle.bridge_table.specs.declared.event.Status.{Status}
use Rattle.shogi_session.specs.Events.{Event, begin, engine_line, server_line, engine_end, server_end, engine_long, server_long}
use Rattle.shogi_session.specs.Promises.{Session}
use Rattle.session_commands.specs.declared.bridging.Peer.{Peer}
use Rattle.session_commands.specs.declared.bridging.Peer.TheVariants.{Engine, Server}
use Rattle.session_commands.specs.declared.log.LogDirection.{LogDirection}
use Rattle.session_commands.specs.declared.log.LogDirection.TheVariants.{From, To}
use Rattle.session_commands.specs.Plays.{Delivers, no_lines, taken, lost, Gives, History, begun, goes_on, Round, Takes}

-- a line that came from a peer, without its line end; or lines that went to it, with theirs
pub record Entry : Type 0 where
  pub peer : Peer
  pub direction : LogDirection
  pub lines : List ℕ

abbrev pub entry_of : Peer → LogDirection → List ℕ → Entry
entry_of peer direction lines = record { peer = peer; direction = direction; lines = lines }

-- a log took an entry
abbrev pub Notes : Type 0 → Type 1
Notes L = L → Entry → L → Type 0

-- it took exactly these entries, in order
abbrev pub NotesAll : {L : Type 0} → Notes L → L → List Entry → L → Type 0
NotesAll notes l [] m = m ≡ l
NotesAll {L} notes l (entry ∷ more) m = (k : L) × notes l entry k × NotesAll notes k more m

-- the line of an event
abbrev pub came_in : Event → List Entry
came_in begin = []
came_in (engine_line line) = entry_of Engine From line ∷ []
came_in (server_line line) = entry_of Server From line ∷ []
came_in engine_end = []
came_in server_end = []
came_in engine_long = []
came_in server_long = []

-- the lines that a peer took
abbrev pub taken_of : {E : Type 0} {went gone : Takes E} (peer : Peer) (lines : List ℕ) {e : E}
    {s : Session} {status : Status} {f : E} {t : Session} {after : Status}
    → Delivers went gone peer lines e s status f t after → List Entry
taken_of peer lines (no_lines none same kept) = []
taken_of peer lines (taken took kept) = entry_of peer To lines ∷ []
taken_of peer lines (lost to_engine to_server after missed step) = []

-- what passed in a round
abbrev pub passed_in : {E : Type 0} {went gone : Takes E} {event : Event} {e : E} {s : Session}
    {f : E} {t : Session} {status : Status} → Round went gone event e s f t status → List Entry
passed_in round =
    taken_of Engine round.to_engine round.sent.first
    ++ taken_of Server round.to_server round.sent.second

-- what passed in a session, in order
abbrev pub passed : {E : Type 0} {came : Gives E} {went gone : Takes E} {e : E} {s : Session}
    {f : E} {t : Session} {status : Status} → History came went gone e s f t status → List Entry
passed (begun f t status round) = passed_in round
passed (goes_on f g h t u event status played arrived round) =
    passed played ++ (came_in event ++ passed_in round)

-- what came from a peer is noted
abbrev pub CameNoted : {E L : Type 0} → Gives E → Notes L → Gives (E × L)
CameNoted came notes e peer event f =
    came e.0 peer event f.0 × NotesAll notes e.1 (came_in event) f.1

-- the lines that a peer took are noted
abbrev pub WentNoted : {E L : Type 0} → Takes E → Notes L → Takes (E × L)
WentNoted went notes e peer lines f =
    went e.0 peer lines f.0 × notes e.1 (entry_of peer To lines) f.1

-- a log that may be missing took an entry
abbrev pub NotesIfAny : {L : Type 0} → Notes L → Notes (Option L)
NotesIfAny notes None entry m = m ≡ None
NotesIfAny {L} notes (Some l) entry m = (k : L) × (m ≡ Some k) × notes l entry k

-- a text was added to a log that may be missing
abbrev pub ClosesIfAny : {L : Type 0} → (L → List ℕ → L → Type 0)
    → Option L → List ℕ → Option L → Type 0
ClosesIfAny closed None text m = m ≡ None
ClosesIfAny {L} closed (Some l) text m = (k : L) × (m ≡ Some k) × closed l text k

-- a text was refused by a log that may be missing; where there is none, it is not refused
abbrev pub RefusesIfAny : {L : Type 0} → (L → List ℕ → L → Type 0)
    → Option L → List ℕ → Option L → Type 0
RefusesIfAny unclosed None text m = ⊥
RefusesIfAny {L} unclosed (Some l) text m = (k : L) × (m ≡ Some k) × unclosed l text k
