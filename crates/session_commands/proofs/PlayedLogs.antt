-- What passes between a bridge and its two sides is a log.
use Rattle.std.proofs.Common.{◌≡◌, ◌⊎◌, inl, inr, ℕ, ◌++◌, true, List, [], ◌∷◌, map, refl, sym, ap, subst, ◌∙◌, append-nil, append_assoc}
use Rattle.std.specs.List.{AllByRecursion, flat_map, list_any}
use Rattle.csa_record.specs.Items.{AtMostOne}
use Rattle.bridge_table.specs.declared.config.Config.{Config}
use Rattle.bridge_table.specs.declared.event.Status.{Status}
use Rattle.bridge_table.specs.declared.event.Status.TheVariants.{Going, Lost}
use Rattle.shogi_session.specs.Events.{Event, Out, begin, engine_end, no_lines as silence, server_end, trimmed}
use Rattle.shogi_session.specs.Logs.{Leads, Step, event_in, is_answer, new, next, sent_lines}
use Rattle.shogi_session.specs.Promises.{Session, Steps}
use Rattle.shogi_session.specs.Row.{Row}
use Rattle.shogi_session.specs.Sending.{IsAnswered, OwnSent}
use Rattle.shogi_session.specs.State.{State, first_state}
use Rattle.shogi_session.specs.Texts.{ended_line, text_of}
use Rattle.session_commands.specs.declared.bridging.Peer.{Peer}
use Rattle.session_commands.specs.declared.bridging.Peer.TheVariants.{Engine, Server}
use Rattle.session_commands.specs.Plays.{Delivers, no_lines, taken, lost, Gives, Misses, History, begun, goes_on, Round, Takes, end_of}
use Rattle.session_commands.specs.PlayedLogs.{AllAnswerWell, AnswersWell, IsLogOf, PlaysLegally, handed, happened, happened_in, lost_of}
use Rattle.session_commands.specs.LackOfMemoryLogs.{Sent, SentLegally, nothing_sent, sent_before, sent_in, sent_with}
use Rattle.session_commands.specs.LackOfMemory.{PlayRunsOut, SendRunsOut, engine_gone, server_gone, lost_before, not_begun, first_unsent, no_next, later_unsent}

-- ---- the laws of the table that are called

abbrev pub EndsSilent : Type 0
EndsSilent = (c : Config) (s t : State) (e : Event) (out : Out) → Row c s e out t → (e ≡ engine_end) ⊎ (e ≡ server_end) → out ≡ silence

abbrev pub SentLegal : Type 0
SentLegal = (c : Config) (log : List Step) (s t : State) (e : Event) (out : Out) → Leads c log s → Row c s e out t
    → AllByRecursion (λ line. is_answer line ≡ true → IsAnswered log line) out.to_server

abbrev pub SentOnce : Type 0
SentOnce = (c : Config) (log : List Step) (s t : State) (e : Event) (out : Out) → Leads c log s → Row c s e out t
    → list_any is_answer out.to_server ≡ true → AtMostOne out.to_server × OwnSent log []

-- ---- lists

text_append : (xs ys : List (List ℕ)) → text_of (xs ++ ys) ≡ text_of xs ++ text_of ys
text_append [] ys = refl
text_append (x ∷ xs) ys = ap (λ t. ended_line x ++ t) (text_append xs ys) ∙ sym (append_assoc (ended_line x) (text_of xs) (text_of ys))

sent_more : (log : List Step) (x : Step) → flat_map sent_lines (log ++ x ∷ []) ≡ flat_map sent_lines log ++ x.out.to_server
sent_more [] x = append-nil x.out.to_server
sent_more (y ∷ ys) x = ap (λ t. y.out.to_server ++ t) (sent_more ys x) ∙ sym (append_assoc y.out.to_server (flat_map sent_lines ys) x.out.to_server)

map_more : {X Y : Type 0} (f : X → Y) (xs : List X) (x : X) → map f (xs ++ x ∷ []) ≡ map f xs ++ f x ∷ []
map_more f [] x = refl
map_more f (y ∷ ys) x = ap (λ t. f y ∷ t) (map_more f ys x)

-- ---- a session that a log leads to

record Logged (c : Config) (events : List Event) (bytes : List ℕ) (s : Session) : Type 0 where
  log : List Step
  log_of : IsLogOf c events bytes s.state log
  config : s.config ≡ c

no_log : (s : Session) → s.state ≡ first_state → Logged s.config [] [] s
no_log s is = record {
  log = [];
  log_of = record { leads = subst (Leads s.config []) (sym is) new; happened_so = refl; handed_so = refl };
  config = refl;
}

step_logged : (c : Config) (events : List Event) (bytes : List ℕ) (s : Session) (event : Event) (to_engine to_server : List ℕ) (status : Status) (t : Session)
    → Logged c events bytes s → Steps s event to_engine to_server status t → Logged c (events ++ event ∷ []) (bytes ++ to_server) t
step_logged c events bytes s event to_engine to_server status t l step =
    let x : Step = record { event = trimmed event; out = step.out; status = t.state.status } in
    let row : Row c s.state (trimmed event) step.out t.state = subst (λ d. Row d s.state (trimmed event) step.out t.state) l.config step.row in
    record {
      log = l.log ++ x ∷ [];
      log_of = record {
        leads = next l.log s.state (trimmed event) step.out t.state l.log_of.leads row;
        happened_so = map_more event_in l.log x ∙ ap (λ es. es ++ trimmed event ∷ []) l.log_of.happened_so ∙ sym (map_more trimmed events event);
        handed_so = ap (λ bs. bs ++ to_server) l.log_of.handed_so ∙ ap (λ bs. text_of (flat_map sent_lines l.log) ++ bs) step.server_text
            ∙ sym (text_append (flat_map sent_lines l.log) step.out.to_server) ∙ ap text_of (sym (sent_more l.log x));
      };
      config = step.config ∙ l.config;
    }

-- when a peer ends, no line is sent
end_silent : EndsSilent → (peer : Peer) (s : Session) (to_engine to_server : List ℕ) (status : Status) (t : Session) → Steps s (end_of peer) to_engine to_server status t → to_server ≡ []
end_silent silent Engine s to_engine to_server status t step =
    step.server_text ∙ ap (λ (o : Out). text_of o.to_server) (silent s.config s.state t.state engine_end step.out step.row (inl refl))
end_silent silent Server s to_engine to_server status t step =
    step.server_text ∙ ap (λ (o : Out). text_of o.to_server) (silent s.config s.state t.state server_end step.out step.row (inr refl))

stays_logged : (c : Config) (events : List Event) (bytes : List ℕ) (s t : Session) → Logged c events bytes s → t ≡ s → Logged c (events ++ []) bytes t
stays_logged c events bytes s t l kept = subst (λ es. Logged c es bytes t) (sym (append-nil events)) (subst (Logged c events bytes) (sym kept) l)

delivered_logged : {E : Type 0} → EndsSilent → (went gone : Takes E) (peer : Peer) (lines : List ℕ) (e : E) (s : Session) (status : Status) (f : E) (t : Session) (after : Status) (c : Config) (events : List Event) (bytes : List ℕ)
    → Logged c events bytes s → (delivers : Delivers went gone peer lines e s status f t after) → Logged c (events ++ lost_of peer delivers) bytes t
delivered_logged silent went gone peer lines e s status f t after c events bytes l (no_lines none same kept) = stays_logged c events bytes s t l kept
delivered_logged silent went gone peer lines e s status f t after c events bytes l (taken took kept) = stays_logged c events bytes s t l kept
delivered_logged silent went gone peer lines e s status f t after c events bytes l (lost to_engine to_server last missed step) =
    subst (λ bs. Logged c (events ++ end_of peer ∷ []) bs t) (ap (λ bs. bytes ++ bs) (end_silent silent peer s to_engine to_server last t step) ∙ append-nil bytes)
    (step_logged c events bytes s (end_of peer) to_engine to_server last t l step)

round_logged : {E : Type 0} → EndsSilent → (went gone : Takes E) (event : Event) (e : E) (s : Session) (f : E) (t : Session) (status : Status) (c : Config) (events : List Event) (bytes : List ℕ)
    → Logged c events bytes s → (round : Round went gone event e s f t status) → Logged c (events ++ happened_in event round) (bytes ++ round.to_server) t
round_logged silent went gone event e s f t status c events bytes l round =
    let sent = round.sent in
    let more = bytes ++ round.to_server in
    let engine_lost = lost_of Engine sent.first in
    let server_lost = lost_of Server sent.second in
    let stepped = step_logged c events bytes s event round.to_engine round.to_server round.stepped round.session l round.step in
    let first = delivered_logged silent went gone Engine round.to_engine e round.session round.stepped sent.between sent.session sent.then_status c (events ++ event ∷ []) more stepped sent.first in
    let second = delivered_logged silent went gone Server round.to_server sent.between sent.session sent.then_status f t status c ((events ++ event ∷ []) ++ engine_lost) more first sent.second in
    subst (λ es. Logged c es more t) (append_assoc (events ++ event ∷ []) engine_lost server_lost ∙ append_assoc events (event ∷ []) (engine_lost ++ server_lost)) second

played_logged : {E : Type 0} → EndsSilent → (came : Gives E) (went gone : Takes E) (e : E) (s : Session) (f : E) (t : Session) (status : Status)
    → s.state ≡ first_state → (played : History came went gone e s f t status) → Logged s.config (happened played) (handed Server played) t
played_logged silent came went gone e s f t status is (begun g u now round) = round_logged silent went gone begin e s g u now s.config [] [] (no_log s is) round
played_logged silent came went gone e s f t status is (goes_on g h k u v event now played arrived round) =
    round_logged silent went gone event h u k v now s.config (happened played) (handed Server played) (played_logged silent came went gone e s g u Going is played) round

-- ---- each step of a log is a row after the log before it

none_after : (bs after : List Step) (y : Step) → [] ≡ bs ++ y ∷ after → ⊥
none_after [] after y e = absurd cc
none_after (b ∷ bs) after y e = absurd cc

splits : (log before later : List Step) (x y : Step) → log ++ x ∷ [] ≡ before ++ y ∷ later
    → ((log ≡ before) × (x ≡ y)) ⊎ ((rest : List Step) × (log ≡ before ++ y ∷ rest))
splits [] [] later x y e = let same : x ≡ y = cc in inl (refl, same)
splits [] (b ∷ bs) later x y e = let none : [] ≡ bs ++ y ∷ later = cc in absurd (none_after bs later y none)
splits (z ∷ zs) [] later x y e = let first : z ≡ y = cc in inr (zs, ap (λ w. w ∷ zs) first)
splits (z ∷ zs) (b ∷ bs) later x y e =
    let first : z ≡ b = cc in
    let rest : zs ++ x ∷ [] ≡ bs ++ y ∷ later = cc in
    elim (splits zs bs later x y rest) [
      | inl h ↦ inl (ap (λ w. w ∷ zs) first ∙ ap (λ ws. b ∷ ws) h.0, h.1)
      | inr h ↦ inr (h.0, ap (λ w. w ∷ zs) first ∙ ap (λ ws. b ∷ ws) h.1)
    ]

row_well : SentLegal → SentOnce → (c : Config) (before : List Step) (s t : State) (e : Event) (out : Out) (status : Status) → Leads c before s → Row c s e out t
    → AnswersWell before (record { event = e; out = out; status = status })
row_well legal once c before s t e out status leads row = record { legal = legal c before s t e out leads row; alone = once c before s t e out leads row }

all_well : SentLegal → SentOnce → (c : Config) (log : List Step) (t : State) → Leads c log t → AllAnswerWell log
all_well legal once c log t new before later y e = absurd (none_after before later y e)
all_well legal once c log t (next front s event out u leads row) before later y e =
    elim (splits front before later (record { event = event; out = out; status = u.status }) y e) [
      | inl h ↦ subst (AnswersWell before) h.1 (subst (λ xs. AnswersWell xs (record { event = event; out = out; status = u.status })) h.0 (row_well legal once c front s u event out u.status leads row))
      | inr h ↦ all_well legal once c front s leads before h.0 y h.1
    ]

legal_of : SentLegal → SentOnce → (c : Config) (events : List Event) (bytes : List ℕ) (s : Session) → Logged c events bytes s → PlaysLegally c events bytes s.state
legal_of legal once c events bytes s l = record { log = l.log; log_of = l.log_of; answers_well = all_well legal once c l.log s.state l.log_of.leads }

pub played_moves_are_legal : {E : Type 0} → EndsSilent → SentLegal → SentOnce → (came : Gives E) (went gone : Takes E) (e : E) (s : Session) (f : E) (t : Session) (status : Status)
    (played : History came went gone e s f t status) → s.state ≡ first_state → PlaysLegally s.config (happened played) (handed Server played) t.state
played_moves_are_legal silent legal once came went gone e s f t status played is =
    legal_of legal once s.config (happened played) (handed Server played) t (played_logged silent came went gone e s f t status is played)

-- ---- and of a session in which an allocation fails

unsent_legal : {E : Type 0} → EndsSilent → SentLegal → SentOnce → (went gone : Takes E) (event : Event) (to_engine to_server : List ℕ) (e : E) (s u : Session) (status : Status) (f : E) (t : Session)
    (c : Config) (before : Sent) → Logged c before.events before.bytes s → before.state ≡ s.state → Steps s event to_engine to_server status u
    → (lack : SendRunsOut went gone to_engine to_server e u status f t) → SentLegally c (sent_with before event to_server lack)
unsent_legal silent legal once went gone event to_engine to_server e s u status f t c before l same step (engine_gone lack) =
    subst (λ state. PlaysLegally c before.events before.bytes state) (sym same) (legal_of legal once c before.events before.bytes s l)
unsent_legal silent legal once went gone event to_engine to_server e s u status f t c before l same step (server_gone g v after delivered lack) =
    let stepped = step_logged c before.events before.bytes s event to_engine to_server status u l step in
    let sent = delivered_logged silent went gone Engine to_engine e u status g v after c (before.events ++ event ∷ []) (before.bytes ++ to_server) stepped delivered in
    legal_of legal once c (before.events ++ event ∷ lost_of Engine delivered) (before.bytes ++ to_server) v
    (subst (λ es. Logged c es (before.bytes ++ to_server) v) (append_assoc before.events (event ∷ []) (lost_of Engine delivered)) sent)

pub sent_moves_are_legal : {E : Type 0} → EndsSilent → SentLegal → SentOnce → (came : Gives E) (missed : Misses E) (went gone : Takes E) (e : E) (s : Session) (f : E) (t : Session)
    (lack : PlayRunsOut came missed went gone e s f t) → s.state ≡ first_state → SentLegally s.config (sent_before s t lack)
sent_moves_are_legal silent legal once came missed went gone e s f t (lost_before played) is = played_moves_are_legal silent legal once came went gone e s f t Lost played is
sent_moves_are_legal silent legal once came missed went gone e s f t (not_begun same lack) is = legal_of legal once s.config [] [] s (no_log s is)
sent_moves_are_legal silent legal once came missed went gone e s f t (first_unsent round) is =
    unsent_legal silent legal once went gone begin round.to_engine round.to_server e s round.session round.stepped f t s.config (nothing_sent s) (no_log s is) refl round.step round.unsent
sent_moves_are_legal silent legal once came missed went gone e s f t (no_next g u played lack) is = played_moves_are_legal silent legal once came went gone e s g u Going played is
sent_moves_are_legal silent legal once came missed went gone e s f t (later_unsent g h u event played arrived round) is =
    unsent_legal silent legal once went gone event round.to_engine round.to_server h u round.session round.stepped f t s.config (sent_in u played)
    (played_logged silent came went gone e s g u Going is played) refl round.step round.unsent
