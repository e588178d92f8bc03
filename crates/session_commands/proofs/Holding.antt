-- What the writers for a bridge's engine and server hold.
use Rattle.std.proofs.Common.{◌≡◌, ◌≢◌, ℕ, List, [], ap, subst, sym}
use Rattle.std.specs.Io.KnownBytes.{Appends}
use Rattle.std.proofs.KnownBytes.{Appends-nil, Appends-trans}
use Rattle.bridge_table.specs.declared.event.Status.{Status}
use Rattle.bridge_table.specs.declared.event.Status.TheVariants.{Going}
use Rattle.shogi_session.specs.Events.{Event, begin}
use Rattle.shogi_session.specs.Promises.{Session}
use Rattle.session_commands.specs.declared.bridging.Peer.{Peer}
use Rattle.session_commands.specs.declared.bridging.Peer.TheVariants.{Engine, Server}
use Rattle.session_commands.specs.Holding.{Holds, IsTaken, KeepsBoth, KeepsOther, TakesLines, TookAll, TookRound}
use Rattle.session_commands.specs.PlayedLogs.{handed, sent_to}
use Rattle.session_commands.specs.Plays.{Delivers, Gives, History, Round, Takes, begun, goes_on, lost, no_lines, taken}

engine_is_not_server : Engine ≡ Server → ⊥
engine_is_not_server same = absurd cc

server_is_not_engine : Server ≡ Engine → ⊥
server_is_not_engine same = absurd cc

own_held : {E : Type 0} (held : Holds E) (went gone : Takes E) → TakesLines held went
    → (peer : Peer) (lines : List ℕ) (e : E) (s : Session) (status : Status) (f : E) (t : Session) (after : Status) (delivers : Delivers went gone peer lines e s status f t after)
    → IsTaken delivers → Appends (held e peer) (held f peer) lines
own_held held went gone takes peer lines e s status f t after (no_lines none same kept) is =
    subst (λ xs. Appends (held e peer) (held f peer) xs) (sym none) (subst (λ x. Appends (held e peer) (held x peer) []) (sym same) (Appends-nil (held e peer)))
own_held held went gone takes peer lines e s status f t after (taken took kept) is = takes e f peer lines took
own_held held went gone takes peer lines e s status f t after (lost to_engine to_server then missed step) is = absurd is

other_held : {E : Type 0} (held : Holds E) (went gone : Takes E) → KeepsOther held went → KeepsOther held gone
    → (peer other : Peer) (lines : List ℕ) (e : E) (s : Session) (status : Status) (f : E) (t : Session) (after : Status) → other ≢ peer
    → Delivers went gone peer lines e s status f t after → held f other ≡ held e other
other_held held went gone went_keeps gone_keeps peer other lines e s status f t after differ (no_lines none same kept) = ap (λ x. held x other) same
other_held held went gone went_keeps gone_keeps peer other lines e s status f t after differ (taken took kept) = went_keeps e f peer other lines took differ
other_held held went gone went_keeps gone_keeps peer other lines e s status f t after differ (lost to_engine to_server then missed step) = gone_keeps e f peer other lines missed differ

round_held : {E : Type 0} (held : Holds E) (went gone : Takes E) → TakesLines held went → KeepsOther held went → KeepsOther held gone
    → (peer : Peer) (event : Event) (e : E) (s : Session) (f : E) (t : Session) (status : Status) (round : Round went gone event e s f t status)
    → TookRound peer round → Appends (held e peer) (held f peer) (sent_to peer round)
round_held held went gone takes went_keeps gone_keeps Engine event e s f t status round took =
    let sent = round.sent in
    let own = own_held held went gone takes Engine round.to_engine e round.session round.stepped sent.between sent.session sent.then_status sent.first took in
    let same = other_held held went gone went_keeps gone_keeps Server Engine round.to_server sent.between sent.session sent.then_status f t status engine_is_not_server sent.second in
    subst (λ bytes. Appends (held e Engine) bytes round.to_engine) (sym same) own
round_held held went gone takes went_keeps gone_keeps Server event e s f t status round took =
    let sent = round.sent in
    let same = other_held held went gone went_keeps gone_keeps Engine Server round.to_engine e round.session round.stepped sent.between sent.session sent.then_status server_is_not_engine sent.first in
    let own = own_held held went gone takes Server round.to_server sent.between sent.session sent.then_status f t status sent.second took in
    subst (λ bytes. Appends bytes (held f Server) round.to_server) same own

pub handed_is_held : {E : Type 0} (held : Holds E) (came : Gives E) (went gone : Takes E) → TakesLines held went → KeepsOther held went → KeepsOther held gone → KeepsBoth held came
    → (peer : Peer) (e : E) (s : Session) (f : E) (t : Session) (status : Status) (played : History came went gone e s f t status)
    → TookAll peer played → Appends (held e peer) (held f peer) (handed peer played)
handed_is_held held came went gone takes went_keeps gone_keeps came_keeps peer e s f t status (begun g u now round) took =
    round_held held went gone takes went_keeps gone_keeps peer begin e s g u now round took
handed_is_held held came went gone takes went_keeps gone_keeps came_keeps peer e s f t status (goes_on g h k u v event now played arrived round) took =
    let before = handed_is_held held came went gone takes went_keeps gone_keeps came_keeps peer e s g u Going played took.0 in
    let last = round_held held went gone takes went_keeps gone_keeps peer event h u k v now round took.1 in
    Appends-trans (held e peer) (held g peer) (held k peer) (handed peer played) (sent_to peer round) before
    (subst (λ bytes. Appends bytes (held k peer) (sent_to peer round)) (came_keeps g h _ peer event arrived) last)
