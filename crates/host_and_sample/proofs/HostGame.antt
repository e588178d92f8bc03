-- The lines that a host sent after START: are a game.
use Rattle.std.proofs.Common.{◌≡◌, ℕ, suc, ◌<◌, ◌++◌, ◌⊎◌, inl, inr, Bool, true, false, cond, List, [], ◌∷◌, length, length-append, map, None, codes, arith, refl, sym, ap, subst, ◌∙◌, append_assoc}
use Rattle.std.specs.List.{AllByRecursion, filter}
use Rattle.std.proofs.lemmas.List.{append-nil, map-append}
use Rattle.std.proofs.lemmas.List.Elements.{filter-append}
use Rattle.std.proofs.lemmas.Grind.{flat_map-append}
use Rattle.shogi_board.specs.declared.color.Color.{Color}
use Rattle.shogi_board.specs.declared.color.Color.TheVariants.{Black, White}
use Rattle.shogi_board.specs.Pieces.{same_color}
use Rattle.shogi_board.specs.Placed.{Placed, even_start}
use Rattle.shogi_rules.proofs.Games.{all-of-none, legal-of-none}
use Rattle.shogi_board.specs.declared.moves.Move.{Move}
use Rattle.shogi_board.specs.After.{after}
use Rattle.shogi_rules.specs.Play.{Answers}
use Rattle.shogi_rules.specs.Positions.{Played, MayFollow, IsGame, begun, played, position_after, now_of}
use Rattle.shogi_rules.specs.Positions.{Over}
use Rattle.shogi_rules.specs.Rules.{Kept}
use Rattle.shogi_board.specs.Rules.{all_rules}
use Rattle.csa_text.specs.Codes.{move_text}
use Rattle.host_and_sample.specs.declared.config.HostConfig.{HostConfig}
use Rattle.host_and_sample.specs.declared.outcome.Outcome.{Outcome}
use Rattle.host_and_sample.specs.declared.outcome.Outcome.TheVariants.{Repetition, Perpetual, MaxMoves}
use Rattle.host_and_sample.specs.Host.{HostState, HostRow, HostTableRow, HostMoves, BeforeLogin, AfterSummary, InPlay, AfterMove, IsHostConfig, IsGoodMove, with_move, moved_line, outcome_lines, even_game, waiting, offered, playing, decided, ended, in_table, skipped}
use Rattle.host_and_sample.specs.Host as row
use Rattle.host_and_sample.specs.HostLogs.{HostStep, HostLeads, begins, next, IsSeconds, client_lines, written, after_start, Timed, move_of, lines_in_turn, IsTimedGame}
use Rattle.session_lines.specs.MoveLines.{is_move_line}
use Rattle.session_lines.specs.ServerLines.{is_start_line}
use Rattle.session_lines.specs.Texts.{with_time}
use Rattle.host_and_sample.proofs.HostRows.{even_goes_on}

abbrev pub Lines : Type 0
Lines = List (List ℕ)

-- 1. lines before and after START:
abbrev pub NoStart : Lines → Type 0
NoStart lines = AllByRecursion (λ l. is_start_line l ≡ false) lines

abbrev pub HasStart : Lines → Type 0
HasStart [] = ⊥
HasStart (l ∷ ls) = (is_start_line l ≡ true) ⊎ ((is_start_line l ≡ false) × HasStart ls)

pub no_more : (a b : Lines) → NoStart a → NoStart b → NoStart (a ++ b)
no_more [] b h k = k
no_more (l ∷ ls) b h k = (h.0, no_more ls b h.1 k)

pub has_more : (a b : Lines) → HasStart a → HasStart (a ++ b)
has_more [] b h = absurd h
has_more (l ∷ ls) b (inl h) = inl h
has_more (l ∷ ls) b (inr h) = inr (h.0, has_more ls b h.1)

pub following_more : (a b : Lines) → HasStart a → after_start (a ++ b) ≡ after_start a ++ b
following_more [] b h = absurd h
following_more (l ∷ ls) b (inl h) = rw h refl
following_more (l ∷ ls) b (inr h) = rw h.0 (following_more ls b h.1)

pub found : (a : Lines) (l : List ℕ) → NoStart a → is_start_line l ≡ true → HasStart (a ++ l ∷ [])
found [] l h s = inl s
found (x ∷ xs) l h s = inr (h.0, found xs l h.1 s)

pub none_following : (a : Lines) (l : List ℕ) → NoStart a → is_start_line l ≡ true → after_start (a ++ l ∷ []) ≡ []
none_following [] l h s = rw s refl
none_following (x ∷ xs) l h s = rw h.0 (none_following xs l h.1 s)

pub none_yet : (a : Lines) → NoStart a → after_start a ≡ []
none_yet [] h = refl
none_yet (x ∷ xs) h = rw h.0 (none_yet xs h.1)

-- 2. the game so far
abbrev game_of : List Timed → Played
game_of ms = record { start = even_start; moves = map move_of ms }

record EndReport (most : ℕ) (w : Lines) (ms : List Timed) : Type 0 where
  start : HasStart w
  timed : IsTimedGame most (filter is_move_line (after_start w)) ms

signed : (color : Color) (m : Move) (seconds : ℕ) → is_move_line (with_time (move_text color m) seconds) ≡ true
signed Black m seconds = refl
signed White m seconds = refl

turn_more : (p : Placed) (ms : List Timed) (x : Timed)
    → lines_in_turn p.side (ms ++ x ∷ []) ≡ lines_in_turn p.side ms ++ with_time (move_text (position_after p (map move_of ms)).side x.move) x.seconds ∷ []
turn_more p [] x = refl
turn_more p (m ∷ ms) x = ap (λ ls. with_time (move_text p.side m.move) m.seconds ∷ ls) (turn_more (after p m.move) ms x)

only_move : (l : List ℕ) → is_move_line l ≡ true → filter is_move_line (l ∷ []) ≡ l ∷ []
only_move l h = rw h refl

times_more : (ms : List Timed) (x : Timed) → AllByRecursion (λ (m : Timed). IsSeconds m.seconds) ms → IsSeconds x.seconds
    → AllByRecursion (λ (m : Timed). IsSeconds m.seconds) (ms ++ x ∷ [])
times_more [] x h k = (k, tt)
times_more (m ∷ ms) x h k = (h.0, times_more ms x h.1 k)

moves_more : (ms : List Timed) (x : Timed) → map move_of (ms ++ x ∷ []) ≡ map move_of ms ++ x.move ∷ []
moves_more ms x = map-append move_of ms (x ∷ [])

same_game : (ms : List Timed) (x : Timed) → with_move (game_of ms) x.move ≡ game_of (ms ++ x ∷ [])
same_game ms x = ap (λ (l : List Move). record { start = even_start; moves = l }) (sym (moves_more ms x))

one_move : (most : ℕ) (w : Lines) (ms : List Timed) (x : Timed) → EndReport most w ms
    → MayFollow even_start (map move_of ms) x.move → length ms < most → IsSeconds x.seconds
    → EndReport most (w ++ moved_line (game_of ms) x.move x.seconds ∷ []) (ms ++ x ∷ [])
one_move most w ms x stated may room time =
    let line = moved_line (game_of ms) x.move x.seconds in
    let kept : filter is_move_line (after_start (w ++ line ∷ [])) ≡ lines_in_turn Black (ms ++ x ∷ []) =
    ap (filter is_move_line) (following_more w (line ∷ []) stated.start)
    ∙ (filter-append is_move_line (after_start w) (line ∷ [])
    ∙ (ap (λ ls. ls ++ filter is_move_line (line ∷ [])) stated.timed.lines_are
    ∙ (ap (λ ls. lines_in_turn Black ms ++ ls) (only_move line (signed (now_of (game_of ms)).side x.move x.seconds))
    ∙ sym (turn_more even_start ms x)))) in
    record {
      start = has_more w (line ∷ []) stated.start;
      timed = record {
        game = subst (IsGame even_start) (sym (moves_more ms x)) (played (map move_of ms) x.move stated.timed.game may);
        few = omega (arith, room, length-append ms (x ∷ []));
        times = times_more ms x stated.timed.times time;
        lines_are = kept;
      };
    }

other_lines : (most : ℕ) (w ls : Lines) (ms : List Timed) → EndReport most w ms → filter is_move_line ls ≡ [] → EndReport most (w ++ ls) ms
other_lines most w ls ms stated none =
    let kept : filter is_move_line (after_start (w ++ ls)) ≡ lines_in_turn Black ms =
    ap (filter is_move_line) (following_more w ls stated.start)
    ∙ (filter-append is_move_line (after_start w) ls
    ∙ (ap (λ x. filter is_move_line (after_start w) ++ x) none
    ∙ (append-nil (filter is_move_line (after_start w)) ∙ stated.timed.lines_are))) in
    record {
      start = has_more w ls stated.start;
      timed = record { game = stated.timed.game; few = stated.timed.few; times = stated.timed.times; lines_are = kept };
    }

-- 3. what holds of the lines so far in each state
abbrev Holds : HostConfig → Lines → HostState → Type 0
Holds c w waiting = NoStart w
Holds c w (offered n) = NoStart w
Holds c w (playing g) = (ms : List Timed) × (g ≡ game_of ms) × EndReport c.max_moves w ms × (length ms < c.max_moves)
Holds c w decided = (ms : List Timed) × EndReport c.max_moves w ms
Holds c w ended = NoStart w ⊎ ((ms : List Timed) × EndReport c.max_moves w ms)

lost_or_won : (b : Bool) → filter is_move_line (codes "#OUTE_SENNICHITE" ∷ cond b (codes "#LOSE") (codes "#WIN") ∷ []) ≡ []
lost_or_won true = refl
lost_or_won false = refl

outcome_moves : (c : HostConfig) (o : Outcome) → filter is_move_line (outcome_lines c o) ≡ []
outcome_moves c Repetition = refl
outcome_moves c (Perpetual loser) = lost_or_won (same_color loser c.client)
outcome_moves c MaxMoves = refl

length_map : (ms : List Timed) → length (map move_of ms) ≡ length ms
length_map [] = refl
length_map (m ∷ ms) = ap suc (length_map ms)

begun_game : (c : HostConfig) (w : Lines) (l : List ℕ) → NoStart w → is_start_line l ≡ true → EndReport c.max_moves (w ++ l ∷ []) []
begun_game c w l none s =
    record {
      start = found w l none s;
      timed = record { game = begun; few = omega arith; times = tt; lines_are = ap (filter is_move_line) (none_following w l none s) };
    }

regroup : (w : Lines) (l : List ℕ) (ls : Lines) → (w ++ l ∷ []) ++ ls ≡ w ++ l ∷ ls
regroup w l ls = append_assoc w (l ∷ []) ls

host_moves : (c : HostConfig) (w : Lines) (ms : List Timed) (more : Lines) (t : HostState) → EndReport c.max_moves w ms → length ms < c.max_moves
    → (Over (game_of ms) → ⊥) → HostMoves c (game_of ms) more t → Holds c (w ++ more) t
host_moves c w ms more t stated room goes r =
    elim r [
      | row.moves m first after l e ↦
          let x : Timed = record { move = m; seconds = 0 } in
          let may : MayFollow even_start (map move_of ms) m = record { legal = first.legal; not_over = goes } in
          let now = one_move c.max_moves w ms x stated may room (omega arith) in
          let same = same_game ms x in
          let left : length (ms ++ x ∷ []) < c.max_moves =
          let a = after.1 in let n = length_map (ms ++ x ∷ []) in let k = ap (λ (g : Played). length g.moves) same in omega (arith, a, n, k) in
          rw (l, e) (ms ++ x ∷ [], same, now, left)
      | row.moves_last m outcome first after l e ↦
          let x : Timed = record { move = m; seconds = 0 } in
          let may : MayFollow even_start (map move_of ms) m = record { legal = first.legal; not_over = goes } in
          let now = one_move c.max_moves w ms x stated may room (omega arith) in
          let line = moved_line (game_of ms) m 0 in
          let all = other_lines c.max_moves (w ++ line ∷ []) (outcome_lines c outcome) (ms ++ x ∷ []) now (outcome_moves c outcome) in
          rw (l, e) (ms ++ x ∷ [], subst (λ v. EndReport c.max_moves v (ms ++ x ∷ [])) (regroup w line (outcome_lines c outcome)) all)
      | row.resigns none l e ↦ rw (l, e) (ms, other_lines c.max_moves w _ ms stated refl)
    ]

-- 4. each row keeps it
pub login_lines : (c : HostConfig) (n : List ℕ) → NoStart ((codes "LOGIN:" ++ (n ++ codes " OK")) ∷ row.summary_lines c n)
login_lines c n = (refl, (refl, (refl, (refl, (refl, (refl, (refl, (refl, (refl, (refl, (refl, (refl, (refl, tt)))))))))))))

before_login : (c : HostConfig) (w : Lines) (line : List ℕ) (lines : Lines) (t : HostState) → NoStart w → BeforeLogin c line lines t → Holds c (w ++ lines) t
before_login c w line lines t none r =
    elim r [
      | row.logs_in n p h l e ↦ rw (l, e) (no_more w _ none (login_lines c n))
      | row.login_incorrect h k l e ↦ rw (l, e) (no_more w _ none (refl, tt))
    ]

after_summary : (c : HostConfig) (w : Lines) (n line : List ℕ) (lines : Lines) (t : HostState) → IsHostConfig c → NoStart w
    → AfterSummary c n line lines t → Holds c (w ++ lines) t
after_summary c w n line lines t kept none r =
    let start = codes "START:" ++ c.id.bytes in
    let some = kept.some_moves in
    let first = begun_game c w start none refl in
    elim r [
      | row.agrees h k l e ↦ rw (l, e) ([], refl, first, omega (arith, some))
      | row.agrees_host_first more h k m l ↦
          rw l (subst (λ v. Holds c v t) (regroup w start more) (host_moves c (w ++ start ∷ []) [] more t first (omega (arith, some)) even_goes_on m))
      | row.rejects h l e ↦ rw (l, e) (inl (no_more w _ none (refl, tt)))
    ]

may_follow : (ms : List Timed) (color : Color) (m : Move) → Answers (game_of ms) color m None → MayFollow even_start (map move_of ms) m
may_follow ms color m a =
    let g = game_of ms in
    let all = all-of-none (Kept g color m) all_rules a.1 in
    record { legal = legal-of-none g color m a.1; not_over = all.1.0 }

in_play : (c : HostConfig) (w : Lines) (ms : List Timed) (line : List ℕ) (seconds : ℕ) (lines : Lines) (t : HostState)
    → EndReport c.max_moves w ms → length ms < c.max_moves → IsSeconds seconds → InPlay c (game_of ms) line seconds lines t → Holds c (w ++ lines) t
in_play c w ms line seconds lines t stated room time r =
    elim r [
      | row.client_moves m more s good after host l ↦
          let x : Timed = record { move = m; seconds = seconds } in
          let now = one_move c.max_moves w ms x stated (may_follow ms good.0 m good.2) room time in
          let same = same_game ms x in
          let next_after = subst (λ (g : Played). AfterMove c g None) same after in
          let next_host = subst (λ (g : Played). HostMoves c g more t) same host in
          let left : length (ms ++ x ∷ []) < c.max_moves =
          let a = next_after.1 in let n = length_map (ms ++ x ∷ []) in omega (arith, a, n) in
          let moved = moved_line (game_of ms) m seconds in
          rw l (subst (λ v. Holds c v t) (regroup w moved more) (host_moves c (w ++ moved ∷ []) (ms ++ x ∷ []) more t now left next_after.0 next_host))
      | row.client_moves_last m outcome s good after l e ↦
          let x : Timed = record { move = m; seconds = seconds } in
          let now = one_move c.max_moves w ms x stated (may_follow ms good.0 m good.2) room time in
          let moved = moved_line (game_of ms) m seconds in
          let all = other_lines c.max_moves (w ++ moved ∷ []) (outcome_lines c outcome) (ms ++ x ∷ []) now (outcome_moves c outcome) in
          rw (l, e) (ms ++ x ∷ [], subst (λ v. EndReport c.max_moves v (ms ++ x ∷ [])) (regroup w moved (outcome_lines c outcome)) all)
      | row.client_errs s none l e ↦ rw (l, e) (ms, other_lines c.max_moves w _ ms stated refl)
      | row.client_resigns h l e ↦ rw (l, e) (ms, other_lines c.max_moves w _ ms stated refl)
      | row.client_declares h l e ↦ rw (l, e) (ms, other_lines c.max_moves w _ ms stated refl)
    ]

playing_holds : (c : HostConfig) (w : Lines) (g : Played) (line : List ℕ) (seconds : ℕ) (lines : Lines) (t : HostState)
    → Holds c w (playing g) → IsSeconds seconds → InPlay c g line seconds lines t → Holds c (w ++ lines) t
playing_holds c w g line seconds lines t h time r =
    in_play c w h.0 line seconds lines t h.2 h.3 time (subst (λ x. InPlay c x line seconds lines t) h.1 r)

logged_out : (c : HostConfig) (w : Lines) (s : HostState) → (s ≡ ended → ⊥) → Holds c w s → Holds c (w ++ codes "LOGOUT:completed" ∷ []) ended
logged_out c w waiting on h = inl (no_more w _ h (refl, tt))
logged_out c w (offered n) on h = inl (no_more w _ h (refl, tt))
logged_out c w (playing g) on h = inr (h.0, other_lines c.max_moves w _ h.0 h.2 refl)
logged_out c w decided on h = inr (h.0, other_lines c.max_moves w _ h.0 h.1 refl)
logged_out c w ended on h = absurd (on refl)

table_row : (c : HostConfig) (w : Lines) (s : HostState) (line : List ℕ) (seconds : ℕ) (lines : Lines) (t : HostState)
    → IsHostConfig c → Holds c w s → IsSeconds seconds → HostTableRow c s line seconds lines t → Holds c (w ++ lines) t
table_row c w s line seconds lines t kept h time r =
    elim r [
      | row.before_login e b ↦ before_login c w line lines t (rw e at h) b
      | row.after_summary n e b ↦ after_summary c w n line lines t kept (rw e at h) b
      | row.in_play g e b ↦ playing_holds c w g line seconds lines t (rw e at h) time b
      | row.logs_out on word l e ↦ rw (l, e) (logged_out c w s on h)
    ]

any_row : (c : HostConfig) (w : Lines) (s : HostState) (line : List ℕ) (seconds : ℕ) (lines : Lines) (t : HostState)
    → IsHostConfig c → Holds c w s → IsSeconds seconds → HostRow c s line seconds lines t → Holds c (w ++ lines) t
any_row c w s line seconds lines t kept h time r =
    elim r [
      | in_table b ↦ table_row c w s line seconds lines t kept h time b
      | skipped none l e ↦ rw (l, e) (subst (λ v. Holds c v s) (sym (append-nil w)) h)
    ]

log_holds : (c : HostConfig) (log : List HostStep) (s : HostState) → IsHostConfig c → HostLeads c log s → Holds c (written log) s
log_holds c log s kept begins = tt
log_holds c log s kept (next before from step to leads time r) =
    let all = any_row c (written before) from step.line step.seconds step.to_client to kept (log_holds c before from kept leads) time r in
    let e : written (before ++ step ∷ []) ≡ written before ++ step.to_client =
    flat_map-append client_lines before (step ∷ []) ∙ ap (λ ls. written before ++ ls) (append-nil step.to_client) in
    subst (λ v. Holds c v to) (sym e) all

game_so_far : (c : HostConfig) (w : Lines) → NoStart w → (ms : List Timed) × IsTimedGame c.max_moves (filter is_move_line (after_start w)) ms
game_so_far c w none =
    ([], record { game = begun; few = omega arith; times = tt; lines_are = ap (filter is_move_line) (none_yet w none) })

game_in : (c : HostConfig) (w : Lines) (s : HostState) → Holds c w s → (ms : List Timed) × IsTimedGame c.max_moves (filter is_move_line (after_start w)) ms
game_in c w waiting h = game_so_far c w h
game_in c w (offered n) h = game_so_far c w h
game_in c w (playing g) h = (h.0, h.2.timed)
game_in c w decided h = (h.0, h.1.timed)
game_in c w ended (inl h) = game_so_far c w h
game_in c w ended (inr h) = (h.0, h.1.timed)

pub host_game : (c : HostConfig) (log : List HostStep) (s : HostState) → IsHostConfig c → HostLeads c log s
    → (ms : List Timed) × IsTimedGame c.max_moves (filter is_move_line (after_start (written log))) ms
host_game c log s kept leads = game_in c (written log) s (log_holds c log s kept leads)
