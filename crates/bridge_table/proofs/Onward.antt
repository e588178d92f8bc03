-- Each row, and each event to which no row applies, keeps a bridge tied to its log.
use Rattle.std.proofs.Common.{◌≡◌, ℕ, ◌++◌, inl, Bool, true, false, List, [], ◌∷◌, Option, Some, None, codes, refl, sym, ap, subst, ◌∙◌, map}
use Rattle.std.specs.Prelude.{◌≢◌, bytes_eq}
use Rattle.std.specs.List.{AllByRecursion, filter, flat_map}
use Rattle.std.proofs.lemmas.List.{append-nil}
use Rattle.std.proofs.lemmas.List.Elements.{filter-append}
use Rattle.std.proofs.lemmas.Grind.{flat_map-append}
use Rattle.std.proofs.lemmas.Slice.Eq.{bytes_eq-Decides}
use Rattle.shogi_board.specs.declared.color.Color.{Color}
use Rattle.shogi_board.specs.declared.color.Color.TheVariants.{Black, White}
use Rattle.shogi_rules.proofs.Standing.{some-answer}
use Rattle.shogi_rules.specs.declared.line.PlayFault.{PlayFault}
use Rattle.shogi_rules.specs.declared.line.PlayFault.TheVariants as play
use Rattle.shogi_board.specs.declared.moves.Move.{Move}
use Rattle.shogi_rules.specs.Positions.{IsGame}
use Rattle.csa_text.specs.Codes.{move_text}
use Rattle.record_game.specs.declared.fault.OrderFault.TheVariants as order
use Rattle.record_game.specs.declared.fault.Why.TheVariants as causes
use Rattle.record_game.specs.Game.{Timed, move_of}
use Rattle.bridge_table.specs.declared.config.Config.{Config}
use Rattle.bridge_table.specs.declared.event.Status.{Status}
use Rattle.bridge_table.specs.declared.event.Status.TheVariants.{Going, Done, Failed, Lost}
use Rattle.bridge_table.specs.declared.fault.SessionFault.{SessionFault}
use Rattle.bridge_table.specs.declared.state.EngineState.{EngineState}
use Rattle.bridge_table.specs.Asking.{Asks, asked, not_asked, go_line}
use Rattle.bridge_table.specs.Events.{Event, begin, engine_line, server_line, engine_end, server_end, engine_long, server_long, Out, no_lines}
use Rattle.bridge_table.specs.Hearing.{content_after}
use Rattle.bridge_table.specs.Logs.{Step, Leads, new, next, server_lines, following, after_login, is_begin_line, IsWithinPlay, is_answer, is_sound, counted, is_counted, answers, sent_lines}
use Rattle.session_lines.specs.MoveLines.{is_move_line}
use Rattle.bridge_table.specs.Row.{Play, in_play, before_result, Judged, IsExpected, TableRow, IsInTable, IsUnnamed, Row, in_table, unnamed, answer_line, login_line, with_reason, text_fault, too_many, breaks}
use Rattle.bridge_table.specs.Row as row
use Rattle.bridge_table.specs.Sending.{own_texts}
use Rattle.session_lines.specs.declared.server_words.GameResult.{GameResult}
use Rattle.session_lines.specs.ServerLines.{is_login_ok, is_start_line, is_hash_line, outcome_of, reason_of}
use Rattle.bridge_table.specs.declared.state.Answer.{Answer}
use Rattle.bridge_table.specs.declared.state.Answer.TheVariants.{Move as move, Toryo as toryo, Kachi as kachi}
use Rattle.bridge_table.specs.State.{Match, Finish, Client, idle, logging_in, before_summary, summary, agreeing, playing, sent, reason, closing, ended, State, match_of, match_line, with_move}
use Rattle.bridge_table.specs.Summary.{SummaryContent, no_content, CountsAs, Offer, TellsOffer}
use Rattle.bridge_table.proofs.Counting.{counts_first, counts_next, counts_more}
use Rattle.bridge_table.proofs.Courses.{Steps, Lines, sends_login, agrees, hears_ok, hears_begin, hears_start, logged_more, login_more, begun_more, Agreed, agreed_now, course_quiet, course_begins}
use Rattle.bridge_table.proofs.EndStated.{stated_ending}
use Rattle.bridge_table.proofs.Existing.{some_line, fault_or_stated}
use Rattle.bridge_table.proofs.Fitting.{FitsState, idle_only, log_fits}
use Rattle.session_lines.proofs.LinesRead.{move_or_ending, move_or_hash}
use Rattle.bridge_table.proofs.RowOnce.{result_hash}
use Rattle.bridge_table.proofs.Testing.{HasOne, has_more, has_found, none_more, after_found, following_more}
use Rattle.bridge_table.proofs.Tied.{Tied, Early, IsSilent, Skipped, Passed, nothing_skipped, tied_silent, may_follow, legal_more, plays_of, confirm, finish, hash, over_closed}

-- 1. rows
abbrev pub step : Event → Out → Status → Step
step e out status = record { event = e; out = out; status = status }

pub data Next (k : Steps) (a : Lines) (s : State) (e : Event) (out : Out) (t : State) : Type 0 where
  goes_on : is_sound t.status ≡ true → Tied (k ++ step e out t.status ∷ []) (a ++ filter is_answer out.to_server) t.client → Next k a s e out t
  faults : is_sound t.status ≡ false → out ≡ no_lines → t.client ≡ s.client → Next k a s e out t

silent : (x : Step) → x.out.to_server ≡ [] → IsSilent x
silent x e = record { login = rw e refl; agree = rw e refl }

same_answers : (k : Steps) (a : Lines) (c : Client) → Tied k a c → Tied k (a ++ []) c
same_answers k a c h = subst (λ b. Tied k b c) (sym (append-nil a)) h

quiet : (k : Steps) (a : Lines) (c : Client) (x : Step) → Tied k a c → x.out.to_server ≡ [] → Skipped c x → Tied (k ++ x ∷ []) (a ++ []) c
quiet k a c x h e n = same_answers (k ++ x ∷ []) a c (tied_silent k a c x h (silent x e) n)

early_sent : (k : Steps) (a : Lines) (x : Step) → Early k a → agrees x ≡ false → Early (k ++ x ∷ []) (a ++ [])
early_sent k a x h e = record { none = none_more agrees k x h.none e; nothing = append-nil a ∙ h.nothing }

at_readied : (c : Config) (k : Steps) (a : Lines) (l : List ℕ) (z : Status) → Tied k a idle
    → Tied (k ++ step (engine_line l) (record { to_engine = []; to_server = login_line c ∷ [] }) z ∷ []) (a ++ []) logging_in
at_readied c k a l z h =
    let x = step (engine_line l) (record { to_engine = []; to_server = login_line c ∷ [] }) z in
    (early_sent k a x h.0 refl, has_found sends_login k x h.1 refl, subst (AllByRecursion (λ y. hears_ok y ≡ false)) (sym (after_found sends_login k x h.1 refl)) tt)

at_login : (k : Steps) (a : Lines) (l : List ℕ) (z : Status) → Tied k a logging_in → is_login_ok l ≡ true
    → Tied (k ++ step (server_line l) no_lines z ∷ []) (a ++ []) before_summary
at_login k a l z h e =
    let x = step (server_line l) no_lines z in
    let more = following_more sends_login k (x ∷ []) h.1 in (
      early_sent k a x h.0 refl,
      record { login = has_more sends_login k (x ∷ []) h.1; ok = subst (λ ys. HasOne hears_ok ys) (sym more) (has_found hears_ok (following sends_login k) x h.2 e) },
      subst (AllByRecursion (λ y. hears_begin y ≡ false)) (sym (ap (following hears_ok) more ∙ after_found hears_ok (following sends_login k) x h.2 e)) tt,
    )

at_begin : (k : Steps) (a : Lines) (z : Status) → Tied k a before_summary
    → Tied (k ++ step (server_line (codes "BEGIN Game_Summary")) no_lines z ∷ []) (a ++ []) (summary no_content)
at_begin k a z h =
    let x = step (server_line (codes "BEGIN Game_Summary")) no_lines z in
    let more = login_more k x h.1 in (
      early_sent k a x h.0 refl,
      record {
        logged = logged_more k x h.1;
        begun = subst (λ ys. HasOne hears_begin ys) (sym more) (has_found hears_begin (after_login k) x h.2 refl);
        counts =
            subst (λ ys. CountsAs (server_lines ys) no_content)
            (sym (ap (following hears_begin) more ∙ after_found hears_begin (after_login k) x h.2 refl)) counts_first;
      },
    )

at_line : (k : Steps) (a : Lines) (l : List ℕ) (z : Status) (h later : SummaryContent) (ls : Lines) → Tied k a (summary h) → CountsAs ls h → CountsAs (ls ++ l ∷ []) later
    → Tied (k ++ step (server_line l) no_lines z ∷ []) (a ++ []) (summary later)
at_line k a l z h later ls tied x y =
    let st = step (server_line l) no_lines z in
    let same : later ≡ content_after h l = (counts_next ls l h later x).0 y in
    (early_sent k a st tied.0 refl, begun_more k st h later tied.1 ((counts_next _ l h later tied.1.counts).1 same))

at_agree : (k : Steps) (a : Lines) (e : Event) (z : Status) (h : SummaryContent) (o : Offer) → Tied k a (summary h) → TellsOffer h o
    → Tied (k ++ step e (record { to_engine = []; to_server = codes "AGREE" ∷ [] }) z ∷ []) (a ++ []) (agreeing o)
at_agree k a e z h o tied tells =
    let x = step e (record { to_engine = []; to_server = codes "AGREE" ∷ [] }) z in (
      append-nil a ∙ tied.0.nothing,
      agreed_now k x h o tied.0.none refl tied.1 tells,
      subst (AllByRecursion (λ y. hears_start y ≡ false)) (sym (after_found agrees k x tied.0.none refl)) tt,
    )

offer_legal : (k : Steps) (o : Offer) → Agreed k o → IsGame o.game.start (map move_of o.game.moves)
offer_legal k o h = h.stated.2.position.says.game.line

at_start : (k : Steps) (a : Lines) (l : List ℕ) (to_engine : Lines) (z : Status) (o : Offer) → Tied k a (agreeing o) → is_start_line l ≡ true
    → Tied (k ++ step (server_line l) (record { to_engine = to_engine; to_server = [] }) z ∷ []) (a ++ []) (playing (match_of o))
at_start k a l to_engine z o h e = record {
  offer = o;
  moved = [];
  taken = [];
  course = course_begins k (step (server_line l) (record { to_engine = to_engine; to_server = [] }) z) o h.1 h.2 e;
  answered = append-nil a ∙ h.0;
  legal = offer_legal k o h.1;
}

signed : (color : Color) (m : Move) → is_answer (move_text color m) ≡ true
signed Black m = refl
signed White m = refl

answer_is : (g : Match) (x : Answer) → is_answer (answer_line g x) ≡ true
answer_is g (move m) = signed g.client m
answer_is g toryo = refl
answer_is g kachi = refl

at_answer : (k : Steps) (a : Lines) (l : List ℕ) (z : Status) (g : Match) (x : Answer) → Tied k a (playing g)
    → Tied (k ++ step (engine_line l) (record { to_engine = []; to_server = answer_line g x ∷ [] }) z ∷ []) (a ++ filter is_answer (answer_line g x ∷ [])) (sent g x)
at_answer k a l z g x h =
    let one : filter is_answer (answer_line g x ∷ []) ≡ answer_line g x ∷ [] = rw (answer_is g x) refl in
    record {
      offer = h.offer;
      moved = h.moved;
      taken = h.taken;
      course = course_quiet k (step (engine_line l) (record { to_engine = []; to_server = answer_line g x ∷ [] }) z) g.client g.game h.taken h.offer h.moved h.course refl;
      answered = ap (λ b. b ++ filter is_answer (answer_line g x ∷ [])) (h.answered ∙ append-nil (own_texts h.offer.client h.moved)) ∙ ap (λ b. own_texts h.offer.client h.moved ++ b) one;
      legal = h.legal;
    }

not_true : (b : Bool) → (b ≡ true → ⊥) → b ≡ false
not_true true h = absurd (h refl)
not_true false h = refl

move_goes_on : (l : List ℕ) → is_move_line l ≡ true → IsWithinPlay l
move_goes_on l sign = record { no_ending = λ e. move_or_ending l sign e.0; no_hash = not_true (is_hash_line l) (move_or_hash l sign) }

pub row_tied : (c : Config) (k : Steps) (a : Lines) (s : State) (e : Event) (out : Out) (t : State) → s.status ≡ Going → Tied k a s.client → FitsState s
    → TableRow c s e out t → Next k a s e out t
row_tied c k a s e out t status tied fits r =
    let going : is_sound s.status ≡ true = ap is_sound status in
    elim r [
      | row.begins at ev o n ↦ rw (ev, o, n) (goes_on going (quiet k a s.client _ tied refl (nothing_skipped s.client _ refl)))
      | row.greeted l at ev w o n ↦ rw (ev, o, n) (goes_on going (quiet k a s.client _ tied refl (nothing_skipped s.client _ refl)))
      | row.readied l at ev w o n ↦
          let only : s.client ≡ idle = idle_only s.client s.engine fits (rw at tt) in
          rw (ev, o, n) (goes_on going (at_readied c k a l s.status (subst (Tied k a) only tied)))
      | row.login_taken l at ev w o n ↦ rw (ev, o, n) (goes_on going (at_login k a l s.status (subst (Tied k a) at tied) w))
      | row.login_refused at ev o n ↦ rw n (faults refl o refl)
      | row.summary_begins at ev o n ↦ rw (ev, o, n) (goes_on going (at_begin k a s.status (subst (Tied k a) at tied)))
      | row.summary_line ls l h later at ev w x y o n ↦ rw (ev, o, n) (goes_on going (at_line k a l s.status h later ls (subst (Tied k a) at tied) x y))
      | row.summary_ends h p at ev w o n ↦ rw (o, n) (goes_on going (at_agree k a e s.status h p (subst (Tied k a) at tied) w))
      | row.summary_fails h at ev w o n ↦ rw n (faults refl o refl)
      | row.started p l ls now at ev w q o n ↦ rw (ev, o, n) (goes_on going (at_start k a l _ s.status p (subst (Tied k a) at tied) w))
      | row.rejected p l at ev w o n ↦ rw n (faults refl o refl)
      | row.engine_moves g l word m at b ev w v o n ↦ rw (ev, o, n) (goes_on going (at_answer k a l s.status g (move m) (subst (Tied k a) b tied)))
      | row.engine_resigns g l at b ev w o n ↦ rw (ev, o, n) (goes_on going (at_answer k a l s.status g toryo (subst (Tied k a) b tied)))
      | row.engine_wins g l at b ev w o n ↦ rw (ev, o, n) (goes_on going (at_answer k a l s.status g kachi (subst (Tied k a) b tied)))
      | row.engine_slips g l word at b ev w v o n ↦ rw (ev, o, n) (goes_on going (at_answer k a l s.status g toryo (subst (Tied k a) b tied)))
      | row.engine_late l word at b ev w o n ↦ rw (ev, o, n) (goes_on going (quiet k a s.client _ tied refl (nothing_skipped s.client _ refl)))
      | row.move_refused p l cause at ev w v o n ↦ rw n (faults refl o refl)
      | row.move_unsent p l color m at ev w j never o n ↦ rw n (faults refl o refl)
      | row.move_confirmed p l color m ls now at ev w j own q o n ↦
          rw (ev, o, n) (goes_on going (same_answers _ a (playing (with_move p.game m))
          (confirm k a p _ l color m (plays_of k a s s.client p tied fits at) refl w j own (move_goes_on l w))))
      | row.ending_stated p l kept at ev w v o n ↦
          rw (ev, o, n) (goes_on going (same_answers _ a (reason p.game (record { kept = Some kept; reason = None }))
          (finish k a p _ l (record { kept = Some kept; reason = None }) None (plays_of k a s s.client p tied fits at) refl (inl (w, kept, v)) (stated_ending l kept w v))))
      | row.reason_stated g f l at ev w v o n ↦
          rw (ev, o, n) (goes_on going (same_answers _ a (reason g (with_reason f (reason_of l))) (hash k a s s.client (g, f) _ l None tied fits at refl w v)))
      | row.result_stated g f l q at ev w o n ↦
          rw (ev, o, n) (goes_on going (same_answers _ a (closing g f q) (hash k a s s.client (g, f) _ l (Some q) tied fits at refl (result_hash l q w) w)))
      | row.closes g f q at ev o n ↦
          rw (o, n) (goes_on refl (same_answers _ a (ended g f q) (over_closed k g.client g.game a (step e no_lines Done) f q (subst (Tied k a) at tied))))
      | row.engine_gone at ev o n ↦ rw n (faults refl o refl)
      | row.server_gone at b ev o n ↦ rw n (faults refl o refl)
      | row.line_too_long ev o n ↦ rw n (faults refl o refl)
    ]

-- 2. an event to which no row applies
asks_something : (c : Config) (g : Match) (old : EngineState) → IsGame g.game.start (map move_of g.game.moves)
    → ((lines : Lines) (now : EngineState) → Asks c g old lines now → ⊥) → ⊥
asks_something c g old legal none =
    let line = some_line g.game.start (map move_of g.game.moves) legal in
    none [] old (not_asked (λ may. none (line.0 ∷ go_line c g ∷ []) _ (asked may (record { position = line.0; of_game = line.1; whole = refl }) refl)) refl refl)

abbrev Nameless : Config → State → List ℕ → Type 0
Nameless c s l = IsUnnamed c s (server_line l)

judged_named : (c : Config) (s : State) (l : List ℕ) (p : Play) (color : Color) (m : Timed) (answer : Option PlayFault) → s.status ≡ Going → in_play s.client ≡ Some p
    → is_move_line l ≡ true → IsGame p.game.game.start (map move_of p.game.game.moves) → Judged p.game l color m answer → Nameless c s l → ⊥
judged_named c s l p color m None going at sign legal j none =
    let more = legal_more p.game.game m legal (may_follow p.game color m.move j.answers) in
    none _ _ (
      going,
      row.move_unsent p l color m at refl sign j
          (λ own. asks_something c (with_move p.game m) s.engine more (λ ls now q. none _ _ (going, row.move_confirmed p l color m ls now at refl sign j own q refl refl)))
          refl refl,
    )
judged_named c s l p color m (Some play.TooManyMoves) going at sign legal j none =
    none _ _ (going, row.move_refused p l (causes.Order order.TooManyMoves) at refl sign (too_many color m j refl) refl refl)
judged_named c s l p color m (Some (play.Broken rule)) going at sign legal j none =
    none _ _ (going, row.move_refused p l (causes.Rule rule) at refl sign (breaks color m rule j refl) refl refl)
judged_named c s l p color m (Some play.OutOfMemory) going at sign legal j none = absurd j.answers

move_named : (c : Config) (s : State) (l : List ℕ) (p : Play) → s.status ≡ Going → in_play s.client ≡ Some p → is_move_line l ≡ true
    → IsGame p.game.game.start (map move_of p.game.game.moves) → Nameless c s l → ⊥
move_named c s l p going at sign legal none =
    fault_or_stated l sign
    (λ f h. none _ _ (going, row.move_refused p l (causes.Text f) at refl sign (text_fault f h refl) refl refl))
    (λ color m stated.
    let answer = some-answer (match_line p.game) color m.move in
    judged_named c s l p color m answer.0 going at sign legal (record { stated = stated; answers = answer.1 }) none)

hash_named : (c : Config) (s : State) (l : List ℕ) (g : Match) (f : Finish) (o : Option GameResult) → s.status ≡ Going → before_result s.client ≡ Some (g, f) → outcome_of l ≡ o
    → is_hash_line l ≡ true → Nameless c s l → ⊥
hash_named c s l g f None going at e sign none = none _ _ (going, row.reason_stated g f l at refl sign e refl refl)
hash_named c s l g f (Some o) going at e sign none = none _ _ (going, row.result_stated g f l o at refl e refl refl)

passed : (c : Config) (s : State) (l : List ℕ) (p : Play) (f : Finish) → s.status ≡ Going → in_play s.client ≡ Some p → before_result s.client ≡ Some (p.game, f)
    → IsGame p.game.game.start (map move_of p.game.game.moves) → Nameless c s l → Passed (Some l)
passed c s l p f going at result legal none = (
  record {
    no_ending = λ e. none _ _ (going, row.ending_stated p l e.1 at refl e.0 e.2 refl refl);
    no_hash = not_true (is_hash_line l) (λ sign. hash_named c s l p.game f (outcome_of l) going result refl sign none);
  },
  not_true (is_move_line l) (λ sign. move_named c s l p going at sign legal none),
)

summary_named : (c : Config) (s : State) (l : List ℕ) (k : Steps) (a : Lines) (h : SummaryContent) (v : Bool) → s.status ≡ Going → s.client ≡ summary h → Tied k a (summary h)
    → bytes_eq l (codes "END Game_Summary") ≡ v → Nameless c s l → ⊥
summary_named c s l k a h true going at tied e none =
    let same : server_line l ≡ server_line (codes "END Game_Summary") = ap server_line ((bytes_eq-Decides l (codes "END Game_Summary")).0 e) in
    none _ _ (going, row.summary_fails h at same (λ o w. none _ _ (going, row.summary_ends h o at same w refl refl)) refl refl)
summary_named c s l k a h false going at tied e none =
    let other : l ≢ codes "END Game_Summary" = λ same. let f = (bytes_eq-Decides l (codes "END Game_Summary")).1 same in cc in
    none _ _ (going, row.summary_line _ l h (content_after h l) at refl other tied.1.counts (counts_more _ l h tied.1.counts) refl refl)

line_skipped : (c : Config) (s : State) (l : List ℕ) (k : Steps) (a : Lines) (at : Client) (z : Status) → s.status ≡ Going → s.client ≡ at → Tied k a at → Nameless c s l
    → Skipped at (step (server_line l) no_lines z)
line_skipped c s l k a idle z going e tied none = tt
line_skipped c s l k a logging_in z going e tied none =
    not_true (is_login_ok l) (λ sign. none _ _ (going, row.login_taken l e refl sign refl refl))
line_skipped c s l k a before_summary z going e tied none =
    not_true (is_begin_line l) (λ sign. none _ _ (going, row.summary_begins e (ap server_line ((bytes_eq-Decides l (codes "BEGIN Game_Summary")).0 sign)) refl refl))
line_skipped c s l k a (summary h) z going e tied none =
    absurd (summary_named c s l k a h (bytes_eq l (codes "END Game_Summary")) going e tied refl none)
line_skipped c s l k a (agreeing o) z going e tied none =
    not_true (is_start_line l) (λ sign. asks_something c (match_of o) s.engine (offer_legal k o tied.1) (λ ls now q. none _ _ (going, row.started o l ls now e refl sign q refl refl)))
line_skipped c s l k a (playing g) z going e tied none =
    passed c s l (record { game = g; waiting = None }) _ going (ap in_play e) (ap before_result e) tied.legal none
line_skipped c s l k a (sent g (move m)) z going e tied none =
    passed c s l (record { game = g; waiting = Some m }) _ going (ap in_play e) (ap before_result e) tied.legal none
line_skipped c s l k a (sent g toryo) z going e tied none =
    passed c s l (record { game = g; waiting = None }) _ going (ap in_play e) (ap before_result e) tied.legal none
line_skipped c s l k a (sent g kachi) z going e tied none =
    passed c s l (record { game = g; waiting = None }) _ going (ap in_play e) (ap before_result e) tied.legal none
line_skipped c s l k a (reason g f) z going e tied none =
    not_true (is_hash_line l) (λ sign. hash_named c s l g f (outcome_of l) going (ap before_result e) refl sign none)
line_skipped c s l k a (closing g f o) z going e tied none = tt
line_skipped c s l k a (ended g f o) z going e tied none = tt

pub event_skipped : (c : Config) (s : State) (e : Event) (k : Steps) (a : Lines) (z : Status) → s.status ≡ Going → Tied k a s.client → IsUnnamed c s e
    → Skipped s.client (step e no_lines z)
event_skipped c s begin k a z going tied none = nothing_skipped s.client _ refl
event_skipped c s (engine_line l) k a z going tied none = nothing_skipped s.client _ refl
event_skipped c s (server_line l) k a z going tied none = line_skipped c s l k a s.client z going refl tied none
event_skipped c s engine_end k a z going tied none = nothing_skipped s.client _ refl
event_skipped c s server_end k a z going tied none = nothing_skipped s.client _ refl
event_skipped c s engine_long k a z going tied none = nothing_skipped s.client _ refl
event_skipped c s server_long k a z going tied none = nothing_skipped s.client _ refl

-- 3. logs
counted_more : (log : Steps) (x : Step) → counted (log ++ x ∷ []) ≡ counted log ++ filter is_counted (x ∷ [])
counted_more log x = filter-append is_counted log (x ∷ [])

pub counted_in : (log : Steps) (x : Step) → is_counted x ≡ true → counted (log ++ x ∷ []) ≡ counted log ++ x ∷ []
counted_in log x e = counted_more log x ∙ ap (λ ys. counted log ++ ys) (rw e refl)

pub counted_out : (log : Steps) (x : Step) → is_counted x ≡ false → counted (log ++ x ∷ []) ≡ counted log
counted_out log x e = counted_more log x ∙ (ap (λ ys. counted log ++ ys) (rw e refl) ∙ append-nil (counted log))

answers_more : (log : Steps) (x : Step) → answers (log ++ x ∷ []) ≡ answers log ++ filter is_answer x.out.to_server
answers_more log x =
    ap (filter is_answer) (flat_map-append sent_lines log (x ∷ []) ∙ ap (λ ls. flat_map sent_lines log ++ ls) (append-nil x.out.to_server))
    ∙ filter-append is_answer (flat_map sent_lines log) x.out.to_server

abbrev pub TiedTo : Steps → State → Type 0
TiedTo log s = Tied (counted log) (answers log) s.client

abbrev IsEnded : Client → Type 0
IsEnded idle = ⊥
IsEnded logging_in = ⊥
IsEnded before_summary = ⊥
IsEnded (summary h) = ⊥
IsEnded (agreeing o) = ⊥
IsEnded (playing g) = ⊥
IsEnded (sent g a) = ⊥
IsEnded (reason g f) = ⊥
IsEnded (closing g f o) = ⊥
IsEnded (ended g f o) = Unit {0}

-- Done comes only with the end
abbrev DoneEnds : State → Type 0
DoneEnds s = s.status ≡ Done → IsEnded s.client

going_done : (z : Status) → z ≡ Going → z ≡ Done → ⊥
going_done z a b = let e : Going ≡ Done = sym a ∙ b in cc

failed_done : (f : SessionFault) → Failed f ≡ Done → ⊥
failed_done f e = cc

row_done : (c : Config) (s : State) (e : Event) (out : Out) (t : State) → s.status ≡ Going → TableRow c s e out t → DoneEnds t
row_done c s e out t going r =
    elim r [
      | row.begins at ev o n ↦ rw n (λ d. absurd (going_done s.status going d))
      | row.greeted l at ev w o n ↦ rw n (λ d. absurd (going_done s.status going d))
      | row.readied l at ev w o n ↦ rw n (λ d. absurd (going_done s.status going d))
      | row.login_taken l at ev w o n ↦ rw n (λ d. absurd (going_done s.status going d))
      | row.login_refused at ev o n ↦ rw n (λ d. absurd (failed_done _ d))
      | row.summary_begins at ev o n ↦ rw n (λ d. absurd (going_done s.status going d))
      | row.summary_line ls l h later at ev w x y o n ↦ rw n (λ d. absurd (going_done s.status going d))
      | row.summary_ends h p at ev w o n ↦ rw n (λ d. absurd (going_done s.status going d))
      | row.summary_fails h at ev w o n ↦ rw n (λ d. absurd (failed_done _ d))
      | row.started p l ls now at ev w q o n ↦ rw n (λ d. absurd (going_done s.status going d))
      | row.rejected p l at ev w o n ↦ rw n (λ d. absurd (failed_done _ d))
      | row.engine_moves g l word m at b ev w v o n ↦ rw n (λ d. absurd (going_done s.status going d))
      | row.engine_resigns g l at b ev w o n ↦ rw n (λ d. absurd (going_done s.status going d))
      | row.engine_wins g l at b ev w o n ↦ rw n (λ d. absurd (going_done s.status going d))
      | row.engine_slips g l word at b ev w v o n ↦ rw n (λ d. absurd (going_done s.status going d))
      | row.engine_late l word at b ev w o n ↦ rw n (λ d. absurd (going_done s.status going d))
      | row.move_refused p l cause at ev w v o n ↦ rw n (λ d. absurd (failed_done _ d))
      | row.move_unsent p l color m at ev w j never o n ↦ rw n (λ d. absurd (failed_done _ d))
      | row.move_confirmed p l color m ls now at ev w j own q o n ↦ rw n (λ d. absurd (going_done s.status going d))
      | row.ending_stated p l kept at ev w v o n ↦ rw n (λ d. absurd (going_done s.status going d))
      | row.reason_stated g f l at ev w v o n ↦ rw n (λ d. absurd (going_done s.status going d))
      | row.result_stated g f l q at ev w o n ↦ rw n (λ d. absurd (going_done s.status going d))
      | row.closes g f q at ev o n ↦ rw n (λ d. tt)
      | row.engine_gone at ev o n ↦ rw n (λ d. absurd (failed_done _ d))
      | row.server_gone at b ev o n ↦ rw n (λ d. absurd (failed_done _ d))
      | row.line_too_long ev o n ↦ rw n (λ d. absurd (failed_done _ d))
    ]

after_row : (log : Steps) (s : State) (e : Event) (out : Out) (t : State) → TiedTo log s → Next (counted log) (answers log) s e out t
    → TiedTo (log ++ step e out t.status ∷ []) t
after_row log s e out t tied r =
    let x = step e out t.status in
    elim r [
      | goes_on sound now ↦
          subst (λ k. Tied k (answers (log ++ x ∷ [])) t.client) (sym (counted_in log x sound))
          (subst (λ a. Tied (counted log ++ x ∷ []) a t.client) (sym (answers_more log x)) now)
      | faults failed o same ↦
          let no_answers : answers (log ++ x ∷ []) ≡ answers log =
          answers_more log x ∙ (ap (λ (y : Out). answers log ++ filter is_answer y.to_server) o ∙ append-nil (answers log)) in
          subst (λ k. Tied k (answers (log ++ x ∷ [])) t.client) (sym (counted_out log x failed))
          (subst (λ a. Tied (counted log) a t.client) (sym no_answers) (subst (Tied (counted log) (answers log)) (sym same) tied))
    ]

ended_skips : (c : Client) (x : Step) → IsEnded c → Skipped c x
ended_skips idle x h = absurd h
ended_skips logging_in x h = absurd h
ended_skips before_summary x h = absurd h
ended_skips (summary y) x h = absurd h
ended_skips (agreeing o) x h = absurd h
ended_skips (playing g) x h = absurd h
ended_skips (sent g a) x h = absurd h
ended_skips (reason g f) x h = absurd h
ended_skips (closing g f o) x h = absurd h
ended_skips (ended g f o) x h = tt

nothing_answered : (log : Steps) (e : Event) (z : Status) → answers (log ++ step e no_lines z ∷ []) ≡ answers log
nothing_answered log e z = answers_more log (step e no_lines z) ∙ append-nil (answers log)

counted_silent : (log : Steps) (s : State) (e : Event) (z : Status) → is_sound z ≡ true → TiedTo log s → Skipped s.client (step e no_lines z)
    → TiedTo (log ++ step e no_lines z ∷ []) s
counted_silent log s e z sound tied skipped =
    let x = step e no_lines z in
    subst (λ k. Tied k (answers (log ++ x ∷ [])) s.client) (sym (counted_in log x sound))
    (subst (λ a. Tied (counted log ++ x ∷ []) a s.client) (sym (nothing_answered log e z)) (tied_silent (counted log) (answers log) s.client x tied (silent x refl) skipped))

failed_silent : (log : Steps) (s : State) (e : Event) (z : Status) → is_sound z ≡ false → TiedTo log s → TiedTo (log ++ step e no_lines z ∷ []) s
failed_silent log s e z failed tied =
    let x = step e no_lines z in
    subst (λ k. Tied k (answers (log ++ x ∷ [])) s.client) (sym (counted_out log x failed)) (subst (λ a. Tied (counted log) a s.client) (sym (nothing_answered log e z)) tied)

after_nothing : (c : Config) (log : Steps) (s : State) (e : Event) (z : Status) → s.status ≡ z → TiedTo log s → DoneEnds s → IsUnnamed c s e
    → TiedTo (log ++ step e no_lines z ∷ []) s
after_nothing c log s e Going at tied done none = counted_silent log s e Going refl tied (event_skipped c s e (counted log) (answers log) Going at tied none)
after_nothing c log s e Done at tied done none = counted_silent log s e Done refl tied (ended_skips s.client _ (done at))
after_nothing c log s e (Failed f) at tied done none = failed_silent log s e (Failed f) refl tied
after_nothing c log s e Lost at tied done none = failed_silent log s e Lost refl tied

-- what is confirmed and answered in a log is what its state has
pub log_tied : (c : Config) (log : Steps) (s : State) → Leads c log s → TiedTo log s × DoneEnds s
log_tied c log s new = ((record { none = tt; nothing = refl }, tt), λ d. absurd (let e : Going ≡ Done = d in cc))
log_tied c log u (next before s e out t leads r) =
    let all = log_tied c before s leads in
    elim r [
      | in_table h ↦
          (after_row before s e out t all.0 (row_tied c (counted before) (answers before) s e out t h.0 all.0 (log_fits c before s leads) h.1), row_done c s e out t h.0 h.1)
      | unnamed none o n ↦ rw (o, n) (after_nothing c before s e s.status refl all.0 all.1 none, all.1)
    ]
