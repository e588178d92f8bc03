-- What the writers for a bridge's engine and server hold.
use Rattle.std.specs.Prelude.{◌≡◌, ◌≢◌, ⊤, ℕ, List, Option}
use Rattle.std.specs.Io.KnownBytes.{Appends}
use Rattle.bridge_table.specs.declared.event.Status.{Status}
use Rattle.shogi_session.specs.Events.{Event}
use Rattle.shogi_session.specs.Promises.{Session}
use Rattle.session_commands.specs.declared.bridging.Peer.{Peer}
use Rattle.session_commands.specs.declared.bridging.Peer.TheVariants.{Engine, Server}
use Rattle.session_commands.specs.Plays.{Delivers, Gives, History, Round, Takes, begun, goes_on, lost, no_lines, taken}

-- the bytes that the writer for a peer holds, if they are known
abbrev pub Holds : Type 0 → Type 0
Holds E = E → Peer → Option (List ℕ)

-- the lines that a peer takes are added to what its writer holds
abbrev pub TakesLines : {E : Type 0} → Holds E → Takes E → Type 0
TakesLines {E} held went =
    (e f : E) (peer : Peer) (lines : List ℕ)
    → went e peer lines f → Appends (held e peer) (held f peer) lines

-- sending to a peer changes nothing in the other's writer
abbrev pub KeepsOther : {E : Type 0} → Holds E → Takes E → Type 0
KeepsOther {E} held sends =
    (e f : E) (peer other : Peer) (lines : List ℕ)
    → sends e peer lines f → other ≢ peer → held f other ≡ held e other

-- reading changes nothing in a writer
abbrev pub KeepsBoth : {E : Type 0} → Holds E → Gives E → Type 0
KeepsBoth {E} held came =
    (e f : E) (peer other : Peer) (event : Event)
    → came e peer event f → held f other ≡ held e other

-- a peer took its lines, if there were any
abbrev pub IsTaken : {E : Type 0} {went gone : Takes E} {peer : Peer} {lines : List ℕ} {e : E}
    {s : Session} {status : Status} {f : E} {t : Session} {after : Status}
    → Delivers went gone peer lines e s status f t after → Type 0
IsTaken (no_lines none same kept) = ⊤
IsTaken (taken took kept) = ⊤
IsTaken (lost to_engine to_server after missed step) = ⊥

-- the peer took the lines of a round
abbrev pub TookRound : {E : Type 0} {went gone : Takes E} {event : Event} {e : E} {s : Session}
    {f : E} {t : Session} {status : Status} → Peer → Round went gone event e s f t status → Type 0
TookRound Engine round = IsTaken round.sent.first
TookRound Server round = IsTaken round.sent.second

-- the peer took all lines that were sent to it
abbrev pub TookAll : {E : Type 0} {came : Gives E} {went gone : Takes E} {e : E} {s : Session}
    {f : E} {t : Session} {status : Status} → Peer → History came went gone e s f t status → Type 0
TookAll peer (begun f t status round) = TookRound peer round
TookAll peer (goes_on f g h t u event status played arrived round) =
    TookAll peer played × TookRound peer round
