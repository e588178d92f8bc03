-- A host sends one line START: at most.
use Rattle.std.proofs.Common.{◌≡◌, ℕ, ◌++◌, Bool, true, false, cond, List, [], ◌∷◌, codes, refl, sym, ap, subst, ◌∙◌, append_assoc}
use Rattle.std.proofs.lemmas.List.{append-nil}
use Rattle.std.proofs.lemmas.Grind.{flat_map-append}
use Rattle.shogi_board.specs.declared.color.Color.{Color}
use Rattle.shogi_board.specs.declared.color.Color.TheVariants.{Black, White}
use Rattle.shogi_board.specs.Pieces.{same_color}
use Rattle.shogi_board.specs.declared.moves.Move.{Move}
use Rattle.shogi_rules.specs.Positions.{Played, now_of}
use Rattle.csa_text.specs.Codes.{move_text}
use Rattle.host_and_sample.specs.declared.config.HostConfig.{HostConfig}
use Rattle.host_and_sample.specs.declared.outcome.Outcome.{Outcome}
use Rattle.host_and_sample.specs.declared.outcome.Outcome.TheVariants.{Repetition, Perpetual, MaxMoves}
use Rattle.host_and_sample.specs.Host.{HostState, HostRow, HostTableRow, HostMoves, BeforeLogin, AfterSummary, InPlay, with_move, moved_line, outcome_lines, waiting, offered, playing, decided, ended, in_table, skipped}
use Rattle.host_and_sample.specs.Host as row
use Rattle.host_and_sample.specs.HostLogs.{HostStep, HostLeads, begins, next, client_lines, written, after_start}
use Rattle.session_lines.specs.ServerLines.{is_start_line}
use Rattle.session_lines.specs.Texts.{with_time}
use Rattle.host_and_sample.proofs.HostGame.{Lines, NoStart, HasStart, no_more, has_more, following_more, found, none_following, none_yet, login_lines}

-- 1. lines that do not begin with START:
no_start_move : (color : Color) (m : Move) (seconds : ℕ) → is_start_line (with_time (move_text color m) seconds) ≡ false
no_start_move Black m seconds = refl
no_start_move White m seconds = refl

lost_or_won : (b : Bool) → NoStart (codes "#OUTE_SENNICHITE" ∷ cond b (codes "#LOSE") (codes "#WIN") ∷ [])
lost_or_won true = (refl, (refl, tt))
lost_or_won false = (refl, (refl, tt))

no_start_outcome : (c : HostConfig) (o : Outcome) → NoStart (outcome_lines c o)
no_start_outcome c Repetition = (refl, (refl, tt))
no_start_outcome c (Perpetual loser) = lost_or_won (same_color loser c.client)
no_start_outcome c MaxMoves = (refl, (refl, tt))

moved_no : (g : Played) (m : Move) (seconds : ℕ) → is_start_line (moved_line g m seconds) ≡ false
moved_no g m seconds = no_start_move (now_of g).side m seconds

-- 2. what holds of the lines so far in each state
record Later (w : Lines) : Type 0 where
  one : HasStart w
  following : NoStart (after_start w)

abbrev Holds : Lines → HostState → Type 0
Holds w waiting = NoStart w
Holds w (offered n) = NoStart w
Holds w (playing g) = Later w
Holds w decided = Later w
Holds w ended = NoStart (after_start w)

later_more : (w ls : Lines) → Later w → NoStart ls → Later (w ++ ls)
later_more w ls h k = record { one = has_more w ls h.one; following = subst NoStart (sym (following_more w ls h.one)) (no_more (after_start w) ls h.following k) }

none_after_it : (w : Lines) → NoStart w → NoStart (after_start w)
none_after_it w h = subst NoStart (sym (none_yet w h)) tt

host_moves : (c : HostConfig) (w : Lines) (g : Played) (lines : Lines) (t : HostState) → Later w → HostMoves c g lines t → Holds (w ++ lines) t
host_moves c w g lines t h r =
    elim r [
      | row.moves m first after l e ↦ rw (l, e) (later_more w _ h (moved_no g m 0, tt))
      | row.moves_last m o first after l e ↦ rw (l, e) (later_more w _ h (moved_no g m 0, no_start_outcome c o))
      | row.resigns none l e ↦ rw (l, e) (later_more w _ h (refl, (refl, (refl, tt))))
    ]

regroup : (w : Lines) (l : List ℕ) (ls : Lines) → (w ++ l ∷ []) ++ ls ≡ w ++ l ∷ ls
regroup w l ls = append_assoc w (l ∷ []) ls

before_login : (c : HostConfig) (w : Lines) (line : List ℕ) (lines : Lines) (t : HostState) → NoStart w → BeforeLogin c line lines t → Holds (w ++ lines) t
before_login c w line lines t h r =
    elim r [
      | row.logs_in n p x l e ↦ rw (l, e) (no_more w _ h (login_lines c n))
      | row.login_incorrect x y l e ↦ rw (l, e) (no_more w _ h (refl, tt))
    ]

starts : (w : Lines) (l : List ℕ) → NoStart w → is_start_line l ≡ true → Later (w ++ l ∷ [])
starts w l h s = record { one = found w l h s; following = subst NoStart (sym (none_following w l h s)) tt }

after_summary : (c : HostConfig) (w : Lines) (n line : List ℕ) (lines : Lines) (t : HostState) → NoStart w → AfterSummary c n line lines t → Holds (w ++ lines) t
after_summary c w n line lines t h r =
    let start = codes "START:" ++ c.id.bytes in
    let first = starts w start h refl in
    elim r [
      | row.agrees x k l e ↦ rw (l, e) first
      | row.agrees_host_first more x k m l ↦ rw l (subst (λ v. Holds v t) (regroup w start more) (host_moves c (w ++ start ∷ []) _ more t first m))
      | row.rejects x l e ↦ rw (l, e) (none_after_it _ (no_more w _ h (refl, tt)))
    ]

in_play : (c : HostConfig) (w : Lines) (g : Played) (line : List ℕ) (seconds : ℕ) (lines : Lines) (t : HostState) → Later w → InPlay c g line seconds lines t
    → Holds (w ++ lines) t
in_play c w g line seconds lines t h r =
    elim r [
      | row.client_moves m more s good after host l ↦
          let moved = moved_line g m seconds in
          let now = later_more w (moved ∷ []) h (moved_no g m seconds, tt) in
          rw l (subst (λ v. Holds v t) (regroup w moved more) (host_moves c (w ++ moved ∷ []) (with_move g m) more t now host))
      | row.client_moves_last m o s good after l e ↦ rw (l, e) (later_more w _ h (moved_no g m seconds, no_start_outcome c o))
      | row.client_errs s none l e ↦ rw (l, e) (later_more w _ h (refl, (refl, tt)))
      | row.client_resigns x l e ↦ rw (l, e) (later_more w _ h (refl, (refl, (refl, tt))))
      | row.client_declares x l e ↦ rw (l, e) (later_more w _ h (refl, (refl, (refl, tt))))
    ]

logged_out : (w : Lines) (s : HostState) → (s ≡ ended → ⊥) → Holds w s → Holds (w ++ codes "LOGOUT:completed" ∷ []) ended
logged_out w waiting on h = none_after_it _ (no_more w _ h (refl, tt))
logged_out w (offered n) on h = none_after_it _ (no_more w _ h (refl, tt))
logged_out w (playing g) on h = (later_more w _ h (refl, tt)).following
logged_out w decided on h = (later_more w _ h (refl, tt)).following
logged_out w ended on h = absurd (on refl)

table_row : (c : HostConfig) (w : Lines) (s : HostState) (line : List ℕ) (seconds : ℕ) (lines : Lines) (t : HostState) → Holds w s
    → HostTableRow c s line seconds lines t → Holds (w ++ lines) t
table_row c w s line seconds lines t h r =
    elim r [
      | row.before_login e b ↦ before_login c w line lines t (subst (Holds w) e h) b
      | row.after_summary n e b ↦ after_summary c w n line lines t (subst (Holds w) e h) b
      | row.in_play g e b ↦ in_play c w g line seconds lines t (subst (Holds w) e h) b
      | row.logs_out on word l e ↦ rw (l, e) (logged_out w s on h)
    ]

any_row : (c : HostConfig) (w : Lines) (s : HostState) (line : List ℕ) (seconds : ℕ) (lines : Lines) (t : HostState) → Holds w s
    → HostRow c s line seconds lines t → Holds (w ++ lines) t
any_row c w s line seconds lines t h r =
    elim r [
      | in_table b ↦ table_row c w s line seconds lines t h b
      | skipped none l e ↦ rw (l, e) (subst (λ v. Holds v s) (sym (append-nil w)) h)
    ]

log_holds : (c : HostConfig) (log : List HostStep) (s : HostState) → HostLeads c log s → Holds (written log) s
log_holds c log s begins = tt
log_holds c log s (next before from step to leads time r) =
    let all = any_row c (written before) from step.line step.seconds step.to_client to (log_holds c before from leads) r in
    let e : written (before ++ step ∷ []) ≡ written before ++ step.to_client =
    flat_map-append client_lines before (step ∷ []) ∙ ap (λ ls. written before ++ ls) (append-nil step.to_client) in
    subst (λ v. Holds v to) (sym e) all

at_most_one : (w : Lines) (s : HostState) → Holds w s → NoStart (after_start w)
at_most_one w waiting h = none_after_it w h
at_most_one w (offered n) h = none_after_it w h
at_most_one w (playing g) h = h.following
at_most_one w decided h = h.following
at_most_one w ended h = h

pub one_start : (c : HostConfig) (log : List HostStep) (s : HostState) → HostLeads c log s → NoStart (after_start (written log))
one_start c log s leads = at_most_one (written log) s (log_holds c log s leads)
