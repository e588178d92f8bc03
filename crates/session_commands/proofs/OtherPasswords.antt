-- What passes in a session passes with any other password too, but for the line of the login.
use Rattle.std.proofs.Common.{◌≡◌, inl, inr, ◌++◌, ◌∙◌, ℕ, List, [], ◌∷◌, refl, sym, ap, subst, append_assoc, append-nil}
use Rattle.bridge_table.specs.declared.config.Config.{Config}
use Rattle.bridge_table.specs.declared.event.Status.{Status}
use Rattle.bridge_table.specs.declared.event.Status.TheVariants.{Going, Lost}
use Rattle.session_lines.specs.LineTexts.{login_front}
use Rattle.shogi_session.specs.Events.{Event, Out, begin, trimmed}
use Rattle.shogi_session.specs.Host.{IsLoginWord}
use Rattle.shogi_session.specs.Passwords.{DifferInLogin, DifferInPassword, same, login}
use Rattle.shogi_session.specs.Promises.{KeepsGame, Session, Steps}
use Rattle.bridge_table.specs.Promises as promise
use Rattle.shogi_session.specs.Row.{Row, login_line}
use Rattle.shogi_session.specs.State.{State}
use Rattle.shogi_session.specs.Texts.{ended_line, text_of}
use Rattle.session_commands.specs.declared.bridging.Peer.{Peer}
use Rattle.session_commands.specs.declared.ending.Snapshot.{Snapshot}
use Rattle.session_commands.specs.declared.bridging.Peer.TheVariants.{Engine, Server}
use Rattle.session_commands.specs.declared.log.LogDirection.TheVariants.{To}
use Rattle.session_commands.specs.Logging.{Entry, came_in, entry_of, passed, passed_in, taken_of}
use Rattle.session_commands.specs.LogTexts.{DifferInPasswords, login_entry, logins, no_entries}
use Rattle.session_commands.specs.LogTexts as differ
use Rattle.session_commands.specs.Endings.{Ended}
use Rattle.session_commands.specs.Noting.{IsSnapshotOf, KeepsEvent, KeptBefore, KeptIn}
use Rattle.session_commands.specs.LackOfMemory.{GoneRunsOut, NextRunsOut, PlayRunsOut, RoundRunsOut, SendRunsOut, StepRunsOut, engine_gone, first_unsent, later_unsent, lost_before, no_next, none_came, not_begun, not_stepped, server_gone}
use Rattle.session_commands.specs.LackOfMemoryLogs.{came_before, passed_before, taken_before}
use Rattle.session_commands.specs.OtherPasswords.{TakesLogin, login_text, with_config}
use Rattle.session_commands.specs.Plays.{Delivers, Gives, History, Misses, Round, Takes, begun, end_of, goes_on, lost, no_lines, taken}

-- 1. Entries
all_same : (entries : List Entry) → DifferInPasswords entries entries
all_same [] = no_entries
all_same (x ∷ xs) = differ.same x xs xs (all_same xs)

differ_more : (xs xs' ys ys' : List Entry) → DifferInPasswords xs xs' → DifferInPasswords ys ys' → DifferInPasswords (xs ++ ys) (xs' ++ ys')
differ_more _ _ ys ys' no_entries more = more
differ_more _ _ ys ys' (differ.same x xs xs' rest) more = differ.same x (xs ++ ys) (xs' ++ ys') (differ_more xs xs' ys ys' rest more)
differ_more _ _ ys ys' (logins name one two xs xs' word rest) more = logins name one two (xs ++ ys) (xs' ++ ys') word (differ_more xs xs' ys ys' rest more)

abbrev line_with : List ℕ → List ℕ → List ℕ
line_with name password = login_front ++ name ++ 32 ∷ (password ++ 10 ∷ [])

text_is : (c : Config) → login_text c ≡ line_with c.name.bytes c.password.bytes
text_is c = append-nil (ended_line (login_line c)) ∙ ap (λ t. login_front ++ t) (append_assoc c.name.bytes (32 ∷ c.password.bytes) (10 ∷ []))

-- the entry of a login, and that of the same with another password
login_differs : (c d : Config) → IsLoginWord c.name.bytes → DifferInPassword c d
    → DifferInPasswords (entry_of Server To (login_text c) ∷ []) (entry_of Server To (login_text d) ∷ [])
login_differs c d word h =
    let other : login_text d ≡ line_with c.name.bytes d.password.bytes = text_is d ∙ ap (λ n. line_with n d.password.bytes) h.name in
    subst (λ x. DifferInPasswords (entry_of Server To x ∷ []) (entry_of Server To (login_text d) ∷ [])) (sym (text_is c))
    (subst (λ x. DifferInPasswords (entry_of Server To (line_with c.name.bytes c.password.bytes) ∷ []) (entry_of Server To x ∷ [])) (sym other)
    (logins c.name.bytes (c.password.bytes ++ 10 ∷ []) (d.password.bytes ++ 10 ∷ []) [] [] word no_entries))

not_empty : (c : Config) → login_text c ≡ [] → ⊥
not_empty c e = cc

-- 2. Steps
data TextsDiffer (c d : Config) (one other : List ℕ) : Type 0 where
  same_text : other ≡ one → TextsDiffer c d one other
  login_texts : one ≡ login_text c → other ≡ login_text d → TextsDiffer c d one other

record StepsAlso (c d : Config) (s : Session) (e : Event) (to_engine to_server : List ℕ) (status : Status) (t : Session) : Type 0 where
  pub text : List ℕ
  pub step : Steps (with_config d s) e to_engine text status (with_config d t)
  pub texts : TextsDiffer c d to_server text
  pub config : t.config ≡ c

abbrev RowsAlike : Type 0
RowsAlike = (c d : Config) (s t : State) (e : Event) (out : Out) → DifferInPassword c d → Row c s e out t → (other : Out) × Row d s e other t × DifferInLogin c d out other

steps_also : RowsAlike → (c d : Config) (s : Session) (e : Event) (x y : List ℕ) (status : Status) (t : Session)
    → DifferInPassword c d → s.config ≡ c → Steps s e x y status t → StepsAlso c d s e x y status t
steps_also alike c d s e x y status t h is step =
    let row : Row c s.state (trimmed e) step.out t.state = subst (λ k. Row k s.state (trimmed e) step.out t.state) is step.row in
    let found = alike c d s.state t.state (trimmed e) step.out h row in
    elim found.2 [
      | same equal ↦ record {
        text = y;
        step = record {
          out = found.0;
          row = found.1;
          config = refl;
          engine_text = step.engine_text ∙ ap (λ (o : Out). text_of o.to_engine) (sym equal);
          server_text = step.server_text ∙ ap (λ (o : Out). text_of o.to_server) (sym equal);
          status_is = step.status_is;
        };
        texts = same_text refl;
        config = step.config ∙ is;
      }
      | login one other ↦ record {
        text = login_text d;
        step = record {
          out = found.0;
          row = found.1;
          config = refl;
          engine_text = step.engine_text ∙ (ap (λ (o : Out). text_of o.to_engine) one ∙ sym (ap (λ (o : Out). text_of o.to_engine) other));
          server_text = sym (ap (λ (o : Out). text_of o.to_server) other);
          status_is = step.status_is;
        };
        texts = login_texts (step.server_text ∙ ap (λ (o : Out). text_of o.to_server) one) refl;
        config = step.config ∙ is;
      }
    ]

-- 3. Lines for a peer
record DeliversAlso {E : Type 0} (went gone : Takes E) (c d : Config) (peer : Peer) (lines others : List ℕ)
    (e : E) (s : Session) (status : Status) (f : E) (t : Session) (after : Status) (entries : List Entry) : Type 0 where
  pub delivers : Delivers (TakesLogin c d went) (TakesLogin c d gone) peer others e (with_config d s) status f (with_config d t) after
  pub differs : DifferInPasswords entries (taken_of peer others delivers)
  pub config : t.config ≡ c

same_lines : {E : Type 0} (went gone : Takes E) → RowsAlike → (c d : Config) (peer : Peer) (lines : List ℕ)
    (e : E) (s : Session) (status : Status) (f : E) (t : Session) (after : Status) → DifferInPassword c d → s.config ≡ c
    → (delivers : Delivers went gone peer lines e s status f t after)
    → DeliversAlso went gone c d peer lines lines e s status f t after (taken_of peer lines delivers)
same_lines went gone alike c d peer lines e s status f t after h is (no_lines none still kept) =
    record { delivers = no_lines none still (ap (with_config d) kept); differs = no_entries; config = ap (λ (x : Session). x.config) kept ∙ is }
same_lines went gone alike c d peer lines e s status f t after h is (taken took kept) =
    record { delivers = taken (inl took) (ap (with_config d) kept); differs = all_same (entry_of peer To lines ∷ []); config = ap (λ (x : Session). x.config) kept ∙ is }
same_lines went gone alike c d peer lines e s status f t after h is (lost x y then missed step) =
    let other = steps_also alike c d s (end_of peer) x y after t h is step in
    record { delivers = lost x other.text after (inl missed) other.step; differs = no_entries; config = other.config }

login_lines : {E : Type 0} (went gone : Takes E) → RowsAlike → (c d : Config) (lines : List ℕ)
    (e : E) (s : Session) (status : Status) (f : E) (t : Session) (after : Status) → IsLoginWord c.name.bytes → DifferInPassword c d → s.config ≡ c → lines ≡ login_text c
    → (delivers : Delivers went gone Server lines e s status f t after)
    → DeliversAlso went gone c d Server lines (login_text d) e s status f t after (taken_of Server lines delivers)
login_lines went gone alike c d lines e s status f t after word h is text (no_lines none still kept) = absurd (not_empty c (sym text ∙ none))
login_lines went gone alike c d lines e s status f t after word h is text (taken took kept) =
    record {
      delivers = taken (inr (refl, refl, subst (λ l. went e Server l f) text took)) (ap (with_config d) kept);
      differs = subst (λ l. DifferInPasswords (entry_of Server To l ∷ []) (entry_of Server To (login_text d) ∷ [])) (sym text) (login_differs c d word h);
      config = ap (λ (x : Session). x.config) kept ∙ is;
    }
login_lines went gone alike c d lines e s status f t after word h is text (lost x y then missed step) =
    let other = steps_also alike c d s (end_of Server) x y after t h is step in
    record { delivers = lost x other.text after (inr (refl, refl, subst (λ l. gone e Server l f) text missed)) other.step; differs = no_entries; config = other.config }

to_server_also : {E : Type 0} (went gone : Takes E) → RowsAlike → (c d : Config) (lines others : List ℕ)
    (e : E) (s : Session) (status : Status) (f : E) (t : Session) (after : Status) → IsLoginWord c.name.bytes → DifferInPassword c d → s.config ≡ c → TextsDiffer c d lines others
    → (delivers : Delivers went gone Server lines e s status f t after)
    → DeliversAlso went gone c d Server lines others e s status f t after (taken_of Server lines delivers)
to_server_also went gone alike c d lines others e s status f t after word h is (same_text equal) delivers =
    subst (λ x. DeliversAlso went gone c d Server lines x e s status f t after (taken_of Server lines delivers)) (sym equal)
    (same_lines went gone alike c d Server lines e s status f t after h is delivers)
to_server_also went gone alike c d lines others e s status f t after word h is (login_texts one other) delivers =
    subst (λ x. DeliversAlso went gone c d Server lines x e s status f t after (taken_of Server lines delivers)) (sym other)
    (login_lines went gone alike c d lines e s status f t after word h is one delivers)

-- 4. Rounds
record RoundAlso {E : Type 0} (went gone : Takes E) (c d : Config) (event : Event)
    (e : E) (s : Session) (f : E) (t : Session) (status : Status) (entries : List Entry) : Type 0 where
  pub round : Round (TakesLogin c d went) (TakesLogin c d gone) event e (with_config d s) f (with_config d t) status
  pub differs : DifferInPasswords entries (passed_in round)
  pub config : t.config ≡ c

round_also : {E : Type 0} (went gone : Takes E) → RowsAlike → (c d : Config) (event : Event)
    (e : E) (s : Session) (f : E) (t : Session) (status : Status) → IsLoginWord c.name.bytes → DifferInPassword c d → s.config ≡ c
    → (round : Round went gone event e s f t status)
    → RoundAlso went gone c d event e s f t status (passed_in round)
round_also went gone alike c d event e s f t status word h is round =
    let sent = round.sent in
    let step = steps_also alike c d s event round.to_engine round.to_server round.stepped round.session h is round.step in
    let first = same_lines went gone alike c d Engine round.to_engine e round.session round.stepped sent.between sent.session sent.then_status h step.config sent.first in
    let second = to_server_also went gone alike c d round.to_server step.text sent.between sent.session sent.then_status f t status word h first.config step.texts sent.second in
    record {
      round = record {
        to_engine = round.to_engine;
        to_server = step.text;
        stepped = round.stepped;
        session = with_config d round.session;
        step = step.step;
        sent = record { between = sent.between; session = with_config d sent.session; then_status = sent.then_status; first = first.delivers; second = second.delivers };
      };
      differs = differ_more (taken_of Engine round.to_engine sent.first) (taken_of Engine round.to_engine first.delivers)
          (taken_of Server round.to_server sent.second) (taken_of Server step.text second.delivers) first.differs second.differs;
      config = second.config;
    }

-- 5. Sessions
record PlaysAlso {E : Type 0} (came : Gives E) (went gone : Takes E) (c d : Config)
    (e : E) (s : Session) (f : E) (t : Session) (status : Status) (entries : List Entry) : Type 0 where
  pub played : History came (TakesLogin c d went) (TakesLogin c d gone) e (with_config d s) f (with_config d t) status
  pub differs : DifferInPasswords entries (passed played)
  pub config : t.config ≡ c

plays_also : {E : Type 0} (came : Gives E) (went gone : Takes E) → RowsAlike → (c d : Config)
    (e : E) (s : Session) (f : E) (t : Session) (status : Status) → IsLoginWord c.name.bytes → DifferInPassword c d → s.config ≡ c
    → (played : History came went gone e s f t status)
    → PlaysAlso came went gone c d e s f t status (passed played)
plays_also came went gone alike c d e s f t status word h is (begun x u now round) =
    let other = round_also went gone alike c d begin e s x u now word h is round in
    record { played = begun x (with_config d u) now other.round; differs = other.differs; config = other.config }
plays_also came went gone alike c d e s f t status word h is (goes_on x y z u v event now played arrived round) =
    let before = plays_also came went gone alike c d e s x u Going word h is played in
    let other = round_also went gone alike c d event y u z v now word h before.config round in
    record {
      played = goes_on x y z (with_config d u) (with_config d v) event now before.played arrived other.round;
      differs = differ_more (passed played) (passed before.played) (came_in event ++ passed_in round) (came_in event ++ passed_in other.round) before.differs
          (differ_more (came_in event) (came_in event) (passed_in round) (passed_in other.round) (all_same (came_in event)) other.differs);
      config = other.config;
    }

-- what is kept of the end does not depend on the password
snapshot_also : (d : Config) (s : Session) (x : Snapshot) → IsSnapshotOf s x → IsSnapshotOf (with_config d s) x
snapshot_also d s x is = record { client = is.client; slip = is.slip; summary_fault = is.summary_fault }

event_also : (d : Config) (s t : Session) (status : Status) (event : Event) (old new : Ended)
    → KeepsEvent s t status event old new → KeepsEvent (with_config d s) (with_config d t) status event old new
event_also d s t status event old new is = record {
  peer = is.peer;
  read = is.read;
  line = is.line;
  is_event = is.is_event;
  before = is.before;
  after = is.after;
  at_first = snapshot_also d s is.before is.at_first;
  at_last = snapshot_also d t is.after is.at_last;
  kept = is.kept;
}

kept_also : {E : Type 0} (came : Gives E) (went gone : Takes E) (alike : RowsAlike) (c d : Config)
    (e : E) (s : Session) (f : E) (t : Session) (status : Status) (word : IsLoginWord c.name.bytes) (h : DifferInPassword c d) (is : s.config ≡ c)
    (played : History came went gone e s f t status) (old new : Ended) → KeptIn played old new
    → KeptIn ((plays_also came went gone alike c d e s f t status word h is played).played) old new
unfolding plays_also round_also
kept_also came went gone alike c d e s f t status word h is (begun x u now round) old new kept = kept
kept_also came went gone alike c d e s f t status word h is (goes_on x y z u v event now played arrived round) old new (between, kept, keeps) =
    (between, kept_also came went gone alike c d e s x u Going word h is played old between kept, event_also d u round.session round.stepped event between new keeps)

pub other_password : {E : Type 0} (came : Gives E) (went gone : Takes E) → RowsAlike → (d : Config)
    (e : E) (s : Session) (f : E) (t : Session) (status : Status) (played : History came went gone e s f t status)
    → IsLoginWord s.config.name.bytes → DifferInPassword s.config d
    → (other : History came (TakesLogin s.config d went) (TakesLogin s.config d gone) e (with_config d s) f (with_config d t) status)
    × DifferInPasswords (passed played) (passed other)
    × ((old new : Ended) → KeptIn played old new → KeptIn other old new)
other_password came went gone alike d e s f t status played word h =
    let found = plays_also came went gone alike s.config d e s f t status word h refl played in
    (found.played, found.differs, kept_also came went gone alike s.config d e s f t status word h refl played)

-- 6. Sessions in which an allocation fails
game_also : RowsAlike → (c d : Config) (s : State) (e : Event) (t : State) → DifferInPassword c d → KeepsGame c s e t → KeepsGame d s e t
game_also alike c d s e t h (promise.before kept) = promise.before kept
game_also alike c d s e t h (promise.after out u row kept) =
    let found = alike c d s u e out h row in
    promise.after found.0 u found.1 kept

step_lacks_also : RowsAlike → (c d : Config) (s : Session) (event : Event) (t : Session) → DifferInPassword c d → s.config ≡ c
    → StepRunsOut s event t → StepRunsOut (with_config d s) event (with_config d t)
step_lacks_also alike c d s event t h is lack = record {
  going = lack.going;
  lost = lack.lost;
  config = refl;
  states = lack.states;
  slip = lack.slip;
  game = game_also alike c d s.state (trimmed event) t.state h (subst (λ k. KeepsGame k s.state (trimmed event) t.state) is lack.game);
}

engine_lacks_also : {E : Type 0} (gone : Takes E) → RowsAlike → (c d : Config) (lines : List ℕ) (e : E) (s : Session) (f : E) (t : Session)
    → DifferInPassword c d → s.config ≡ c
    → GoneRunsOut gone Engine lines e s f t → GoneRunsOut (TakesLogin c d gone) Engine lines e (with_config d s) f (with_config d t)
engine_lacks_also gone alike c d lines e s f t h is lack = (inl lack.0, step_lacks_also alike c d s (end_of Engine) t h is lack.1)

server_lacks_also : {E : Type 0} (gone : Takes E) → RowsAlike → (c d : Config) (lines others : List ℕ) (e : E) (s : Session) (f : E) (t : Session)
    → DifferInPassword c d → s.config ≡ c → TextsDiffer c d lines others
    → GoneRunsOut gone Server lines e s f t → GoneRunsOut (TakesLogin c d gone) Server others e (with_config d s) f (with_config d t)
server_lacks_also gone alike c d lines others e s f t h is (same_text equal) lack =
    (inl (subst (λ l. gone e Server l f) (sym equal) lack.0), step_lacks_also alike c d s (end_of Server) t h is lack.1)
server_lacks_also gone alike c d lines others e s f t h is (login_texts one other) lack =
    (inr (refl, other, subst (λ l. gone e Server l f) one lack.0), step_lacks_also alike c d s (end_of Server) t h is lack.1)

record UnsentAlso {E : Type 0} (went gone : Takes E) (c d : Config) (to_engine others : List ℕ)
    (e : E) (s : Session) (status : Status) (f : E) (t : Session) (entries : List Entry) : Type 0 where
  pub unsent : SendRunsOut (TakesLogin c d went) (TakesLogin c d gone) to_engine others e (with_config d s) status f (with_config d t)
  pub differs : DifferInPasswords entries (taken_before to_engine unsent)

unsent_also : {E : Type 0} (went gone : Takes E) → RowsAlike → (c d : Config) (to_engine to_server others : List ℕ)
    (e : E) (s : Session) (status : Status) (f : E) (t : Session) → DifferInPassword c d → s.config ≡ c → TextsDiffer c d to_server others
    → (lack : SendRunsOut went gone to_engine to_server e s status f t)
    → UnsentAlso went gone c d to_engine others e s status f t (taken_before to_engine lack)
unsent_also went gone alike c d to_engine to_server others e s status f t h is texts (engine_gone lack) =
    record { unsent = engine_gone (engine_lacks_also gone alike c d to_engine e s f t h is lack); differs = no_entries }
unsent_also went gone alike c d to_engine to_server others e s status f t h is texts (server_gone g u now delivered lack) =
    let first = same_lines went gone alike c d Engine to_engine e s status g u now h is delivered in
    record {
      unsent = server_gone g (with_config d u) now first.delivers (server_lacks_also gone alike c d to_server others g u f t h first.config texts lack);
      differs = first.differs;
    }

record RoundLacksAlso {E : Type 0} (went gone : Takes E) (c d : Config) (event : Event)
    (e : E) (s : Session) (f : E) (t : Session) (entries : List Entry) : Type 0 where
  pub round : RoundRunsOut (TakesLogin c d went) (TakesLogin c d gone) event e (with_config d s) f (with_config d t)
  pub differs : DifferInPasswords entries (taken_before round.to_engine round.unsent)

round_lacks_also : {E : Type 0} (went gone : Takes E) → RowsAlike → (c d : Config) (event : Event)
    (e : E) (s : Session) (f : E) (t : Session) → DifferInPassword c d → s.config ≡ c
    → (round : RoundRunsOut went gone event e s f t)
    → RoundLacksAlso went gone c d event e s f t (taken_before round.to_engine round.unsent)
round_lacks_also went gone alike c d event e s f t h is round =
    let step = steps_also alike c d s event round.to_engine round.to_server round.stepped round.session h is round.step in
    let other = unsent_also went gone alike c d round.to_engine round.to_server step.text e round.session round.stepped f t h step.config step.texts round.unsent in
    record {
      round = record {
        to_engine = round.to_engine;
        to_server = step.text;
        stepped = round.stepped;
        session = with_config d round.session;
        step = step.step;
        unsent = other.unsent;
      };
      differs = other.differs;
    }

record NextLacksAlso {E : Type 0} (came : Gives E) (missed : Misses E) (d : Config)
    (e : E) (s : Session) (f : E) (t : Session) (entries : List Entry) : Type 0 where
  pub next : NextRunsOut came missed e (with_config d s) f (with_config d t)
  pub differs : DifferInPasswords entries (came_before next)

next_lacks_also : {E : Type 0} (came : Gives E) (missed : Misses E) → RowsAlike → (c d : Config)
    (e : E) (s : Session) (f : E) (t : Session) → DifferInPassword c d → s.config ≡ c
    → (lack : NextRunsOut came missed e s f t)
    → NextLacksAlso came missed d e s f t (came_before lack)
next_lacks_also came missed alike c d e s f t h is (none_came none kept) =
    record { next = none_came none (ap (with_config d) kept); differs = no_entries }
next_lacks_also came missed alike c d e s f t h is (not_stepped event arrived lack) =
    record { next = not_stepped event arrived (step_lacks_also alike c d s event t h is lack); differs = all_same (came_in event) }

record LacksAlso {E : Type 0} (came : Gives E) (missed : Misses E) (went gone : Takes E) (c d : Config)
    (e : E) (s : Session) (f : E) (t : Session) (entries : List Entry) : Type 0 where
  pub lack : PlayRunsOut came missed (TakesLogin c d went) (TakesLogin c d gone) e (with_config d s) f (with_config d t)
  pub differs : DifferInPasswords entries (passed_before lack)

lacks_also : {E : Type 0} (came : Gives E) (missed : Misses E) (went gone : Takes E) → RowsAlike → (c d : Config)
    (e : E) (s : Session) (f : E) (t : Session) → IsLoginWord c.name.bytes → DifferInPassword c d → s.config ≡ c
    → (lack : PlayRunsOut came missed went gone e s f t)
    → LacksAlso came missed went gone c d e s f t (passed_before lack)
lacks_also came missed went gone alike c d e s f t word h is (lost_before played) =
    let other = plays_also came went gone alike c d e s f t Lost word h is played in
    record { lack = lost_before other.played; differs = other.differs }
lacks_also came missed went gone alike c d e s f t word h is (not_begun kept lack) =
    record { lack = not_begun kept (step_lacks_also alike c d s begin t h is lack); differs = no_entries }
lacks_also came missed went gone alike c d e s f t word h is (first_unsent round) =
    let other = round_lacks_also went gone alike c d begin e s f t h is round in
    record { lack = first_unsent other.round; differs = other.differs }
lacks_also came missed went gone alike c d e s f t word h is (no_next g u played lack) =
    let first = plays_also came went gone alike c d e s g u Going word h is played in
    let other = next_lacks_also came missed alike c d g u f t h first.config lack in
    record {
      lack = no_next g (with_config d u) first.played other.next;
      differs = differ_more (passed played) (passed first.played) (came_before lack) (came_before other.next) first.differs other.differs;
    }
lacks_also came missed went gone alike c d e s f t word h is (later_unsent x y u event played arrived round) =
    let first = plays_also came went gone alike c d e s x u Going word h is played in
    let other = round_lacks_also went gone alike c d event y u f t h first.config round in
    let one = taken_before round.to_engine round.unsent in
    let two = taken_before other.round.to_engine other.round.unsent in
    record {
      lack = later_unsent x y (with_config d u) event first.played arrived other.round;
      differs = differ_more (passed played) (passed first.played) (came_in event ++ one) (came_in event ++ two) first.differs
          (differ_more (came_in event) (came_in event) one two (all_same (came_in event)) other.differs);
    }

kept_before_also : {E : Type 0} (came : Gives E) (missed : Misses E) (went gone : Takes E) (alike : RowsAlike) (c d : Config)
    (e : E) (s : Session) (f : E) (t : Session) (word : IsLoginWord c.name.bytes) (h : DifferInPassword c d) (is : s.config ≡ c)
    (lack : PlayRunsOut came missed went gone e s f t) (old new : Ended) → KeptBefore lack old new
    → KeptBefore ((lacks_also came missed went gone alike c d e s f t word h is lack).lack) old new
unfolding lacks_also round_lacks_also
kept_before_also came missed went gone alike c d e s f t word h is (lost_before played) old new kept =
    kept_also came went gone alike c d e s f t Lost word h is played old new kept
kept_before_also came missed went gone alike c d e s f t word h is (not_begun stays lack) old new kept = kept
kept_before_also came missed went gone alike c d e s f t word h is (first_unsent round) old new kept = kept
kept_before_also came missed went gone alike c d e s f t word h is (no_next g u played lack) old new kept =
    kept_also came went gone alike c d e s g u Going word h is played old new kept
kept_before_also came missed went gone alike c d e s f t word h is (later_unsent x y u event played arrived round) old new (between, kept, keeps) =
    (between, kept_also came went gone alike c d e s x u Going word h is played old between kept, event_also d u round.session round.stepped event between new keeps)

pub other_password_out_of_memory : {E : Type 0} (came : Gives E) (missed : Misses E) (went gone : Takes E) → RowsAlike → (d : Config)
    (e : E) (s : Session) (f : E) (t : Session) (lack : PlayRunsOut came missed went gone e s f t)
    → IsLoginWord s.config.name.bytes → DifferInPassword s.config d
    → (other : PlayRunsOut came missed (TakesLogin s.config d went) (TakesLogin s.config d gone) e (with_config d s) f (with_config d t))
    × DifferInPasswords (passed_before lack) (passed_before other)
    × ((old new : Ended) → KeptBefore lack old new → KeptBefore other old new)
other_password_out_of_memory came missed went gone alike d e s f t lack word h =
    let found = lacks_also came missed went gone alike s.config d e s f t word h refl lack in
    (found.lack, found.differs, kept_before_also came missed went gone alike s.config d e s f t word h refl lack)
