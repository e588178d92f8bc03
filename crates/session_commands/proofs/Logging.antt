-- What passed in a session is what its log noted.
use Rattle.std.proofs.Common.{◌≡◌, ◌++◌, ℕ, List, [], ◌∷◌, Option, Some, refl, ap, subst, sym}
use Rattle.bridge_table.specs.declared.event.Status.{Status}
use Rattle.bridge_table.specs.declared.event.Status.TheVariants.{Going, Lost}
use Rattle.shogi_session.specs.Events.{Event}
use Rattle.shogi_session.specs.Promises.{Session}
use Rattle.session_commands.specs.declared.bridging.Peer.{Peer}
use Rattle.session_commands.specs.declared.bridging.Peer.TheVariants.{Engine, Server}
use Rattle.record_commands.specs.declared.incoming.LineEvent.{LineEvent}
use Rattle.record_commands.specs.declared.incoming.LineEvent.TheVariants.{Line, End, Long, Failed}
use Rattle.session_commands.specs.declared.log.LogDirection.TheVariants.{From, To}
use Rattle.session_commands.specs.LackOfMemory.{NextRunsOut, PlayRunsOut, SendRunsOut, engine_gone, first_unsent, later_unsent, lost_before, no_next, none_came, not_begun, not_stepped, server_gone}
use Rattle.session_commands.specs.LackOfMemoryLogs.{came_before, passed_before, taken_before}
use Rattle.session_commands.specs.Logging.{Entry, Notes, NotesAll, NotesIfAny, came_in, entry_of, passed, passed_in, taken_of}
use Rattle.session_commands.specs.Plays.{Delivers, Gives, History, Misses, Round, Takes, begun, event_from, goes_on, lost, no_lines, taken}

notes_more : {L : Type 0} (notes : Notes L) (xs ys : List Entry) (l k m : L) → NotesAll notes l xs k → NotesAll notes k ys m → NotesAll notes l (xs ++ ys) m
notes_more notes [] ys l k m first second = subst (λ x. NotesAll notes x ys m) first second
notes_more notes (x ∷ xs) ys l k m first second = (first.0, first.1, notes_more notes xs ys first.0 k m first.2 second)

-- each step of the ends that a log takes part in
abbrev pub WentIsNoted : {E L : Type 0} → (E → L) → Notes L → Takes E → Type 0
WentIsNoted {E} log notes went = (e f : E) (peer : Peer) (lines : List ℕ) → went e peer lines f → notes (log e) (entry_of peer To lines) (log f)

abbrev pub GoneIsNot : {E L : Type 0} → (E → L) → Takes E → Type 0
GoneIsNot {E} log gone = (e f : E) (peer : Peer) (lines : List ℕ) → gone e peer lines f → log f ≡ log e

abbrev pub CameIsNoted : {E L : Type 0} → (E → L) → Notes L → Gives E → Type 0
CameIsNoted {E} log notes came = (e f : E) (peer : Peer) (event : Event) → came e peer event f → NotesAll notes (log e) (came_in event) (log f)

delivers_noted : {E L : Type 0} (log : E → L) (notes : Notes L) (went gone : Takes E) → WentIsNoted log notes went → GoneIsNot log gone
    → (peer : Peer) (lines : List ℕ) (e : E) (s : Session) (status : Status) (f : E) (t : Session) (after : Status) (delivers : Delivers went gone peer lines e s status f t after)
    → NotesAll notes (log e) (taken_of peer lines delivers) (log f)
delivers_noted log notes went gone w g peer lines e s status f t after (no_lines none same kept) = ap log same
delivers_noted log notes went gone w g peer lines e s status f t after (taken took kept) = (log f, w e f peer lines took, refl)
delivers_noted log notes went gone w g peer lines e s status f t after (lost to_engine to_server then missed step) = g e f peer lines missed

round_noted : {E L : Type 0} (log : E → L) (notes : Notes L) (went gone : Takes E) → WentIsNoted log notes went → GoneIsNot log gone
    → (event : Event) (e : E) (s : Session) (f : E) (t : Session) (status : Status) (round : Round went gone event e s f t status)
    → NotesAll notes (log e) (passed_in round) (log f)
round_noted log notes went gone w g event e s f t status round =
    let sent = round.sent in
    notes_more notes (taken_of Engine round.to_engine sent.first) (taken_of Server round.to_server sent.second) (log e) (log sent.between) (log f)
    (delivers_noted log notes went gone w g Engine round.to_engine e round.session round.stepped sent.between sent.session sent.then_status sent.first)
    (delivers_noted log notes went gone w g Server round.to_server sent.between sent.session sent.then_status f t status sent.second)

pub history_noted : {E L : Type 0} (log : E → L) (notes : Notes L) (came : Gives E) (went gone : Takes E) → CameIsNoted log notes came → WentIsNoted log notes went → GoneIsNot log gone
    → (e : E) (s : Session) (f : E) (t : Session) (status : Status) (played : History came went gone e s f t status)
    → NotesAll notes (log e) (passed played) (log f)
history_noted log notes came went gone c w g e s f t status (begun x u now round) = round_noted log notes went gone w g _ e s x u now round
history_noted log notes came went gone c w g e s f t status (goes_on x y z u v event now played arrived round) =
    notes_more notes (passed played) (came_in event ++ passed_in round) (log e) (log x) (log z)
    (history_noted log notes came went gone c w g e s x u Going played)
    (notes_more notes (came_in event) (passed_in round) (log x) (log y) (log z) (c x y _ event arrived) (round_noted log notes went gone w g event y u z v now round))

-- ---- and in a session in which an allocation fails

abbrev pub MissedIsNot : {E L : Type 0} → (E → L) → Misses E → Type 0
MissedIsNot {E} log missed = (e f : E) (peer : Peer) → missed e peer f → log f ≡ log e

unsent_noted : {E L : Type 0} (log : E → L) (notes : Notes L) (went gone : Takes E) → WentIsNoted log notes went → GoneIsNot log gone
    → (to_engine to_server : List ℕ) (e : E) (s : Session) (status : Status) (f : E) (t : Session) (lack : SendRunsOut went gone to_engine to_server e s status f t)
    → NotesAll notes (log e) (taken_before to_engine lack) (log f)
unsent_noted log notes went gone w g to_engine to_server e s status f t (engine_gone lack) = g e f Engine to_engine lack.0
unsent_noted log notes went gone w g to_engine to_server e s status f t (server_gone x u after delivered lack) =
    subst (λ m. NotesAll notes (log e) (taken_of Engine to_engine delivered) m) (sym (g x f Server to_server lack.0))
    (delivers_noted log notes went gone w g Engine to_engine e s status x u after delivered)

next_noted : {E L : Type 0} (log : E → L) (notes : Notes L) (came : Gives E) (missed : Misses E) → CameIsNoted log notes came → MissedIsNot log missed
    → (e : E) (s : Session) (f : E) (t : Session) (lack : NextRunsOut came missed e s f t)
    → NotesAll notes (log e) (came_before lack) (log f)
next_noted log notes came missed c m e s f t (none_came none same) = m e f _ none
next_noted log notes came missed c m e s f t (not_stepped event arrived lack) = c e f _ event arrived

pub lack_noted : {E L : Type 0} (log : E → L) (notes : Notes L) (came : Gives E) (missed : Misses E) (went gone : Takes E)
    → CameIsNoted log notes came → MissedIsNot log missed → WentIsNoted log notes went → GoneIsNot log gone
    → (e : E) (s : Session) (f : E) (t : Session) (lack : PlayRunsOut came missed went gone e s f t)
    → NotesAll notes (log e) (passed_before lack) (log f)
lack_noted log notes came missed went gone c m w g e s f t (lost_before played) = history_noted log notes came went gone c w g e s f t Lost played
lack_noted log notes came missed went gone c m w g e s f t (not_begun same lack) = ap log same
lack_noted log notes came missed went gone c m w g e s f t (first_unsent round) =
    unsent_noted log notes went gone w g round.to_engine round.to_server e round.session round.stepped f t round.unsent
lack_noted log notes came missed went gone c m w g e s f t (no_next x u played lack) =
    notes_more notes (passed played) (came_before lack) (log e) (log x) (log f)
    (history_noted log notes came went gone c w g e s x u Going played) (next_noted log notes came missed c m x u f t lack)
lack_noted log notes came missed went gone c m w g e s f t (later_unsent x y u event played arrived round) =
    let last = taken_before round.to_engine round.unsent in
    notes_more notes (passed played) (came_in event ++ last) (log e) (log x) (log f)
    (history_noted log notes came went gone c w g e s x u Going played)
    (notes_more notes (came_in event) last (log x) (log y) (log f) (c x y _ event arrived)
    (unsent_noted log notes went gone w g round.to_engine round.to_server y round.session round.stepped f t round.unsent))

-- a line that came is noted, and nothing else
pub came_noted : {L : Type 0} (notes : Notes L) (peer : Peer) (what : LineEvent) (line : List ℕ) (l m : L)
    → (what ≡ Line → notes l (entry_of peer From line) m) → ((what ≡ Line → ⊥) → m ≡ l)
    → NotesAll notes l (came_in (event_from peer what line)) m
came_noted notes Engine Line line l m noted same = (m, noted refl, refl)
came_noted notes Engine End line l m noted same = same (λ is. cc)
came_noted notes Engine Long line l m noted same = same (λ is. cc)
came_noted notes Engine Failed line l m noted same = same (λ is. cc)
came_noted notes Server Line line l m noted same = (m, noted refl, refl)
came_noted notes Server End line l m noted same = same (λ is. cc)
came_noted notes Server Long line l m noted same = same (λ is. cc)
came_noted notes Server Failed line l m noted same = same (λ is. cc)

-- ---- what another log notes

-- what is known of a log notes the same
pub seen_noted : {L M : Type 0} (notes : Notes L) (seen : Notes M) (view : L → M) → ((l m : L) (entry : Entry) → notes l entry m → seen (view l) entry (view m))
    → (entries : List Entry) (l m : L) → NotesAll notes l entries m → NotesAll seen (view l) entries (view m)
seen_noted notes seen view each [] l m kept = ap view kept
seen_noted notes seen view each (entry ∷ more) l m (k, step, rest) = (view k, each l k entry step, seen_noted notes seen view each more k m rest)

-- a log that may be missing notes as the log that is there
pub any_noted : {L : Type 0} (notes : Notes L) (entries : List Entry) (l : L) (m : Option L)
    → NotesAll (NotesIfAny notes) (Some l) entries m → (k : L) × (m ≡ Some k) × NotesAll notes l entries k
any_noted notes [] l m kept = (l, kept, refl)
any_noted notes (entry ∷ more) l m (o, (k, is, step), rest) =
    let after = any_noted notes more k m (subst (λ x. NotesAll (NotesIfAny notes) x more m) is rest) in
    (after.0, after.1, (k, step, after.2))
