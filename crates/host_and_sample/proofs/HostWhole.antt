-- The bytes that a host sends are cut back into its lines, which have no space at their end.
use Rattle.std.proofs.Common.{◌≡◌, ℕ, ◌++◌, Bool, true, false, cond, List, [], ◌∷◌, codes, decimal, arith, refl, sym, ap, subst, ◌∙◌}
use Rattle.std.specs.List.{AllByRecursion}
use Rattle.std.proofs.lemmas.List.{append-nil}
use Rattle.std.proofs.lemmas.Grind.{flat_map-append}
use Rattle.shogi_board.specs.declared.color.Color.{Color}
use Rattle.shogi_board.specs.declared.color.Color.TheVariants.{Black, White}
use Rattle.shogi_board.specs.Pieces.{same_color}
use Rattle.shogi_board.specs.declared.moves.Move.{Move}
use Rattle.shogi_rules.specs.Positions.{Played, now_of}
use Rattle.csa_text.specs.Codes.{sign, move_text}
use Rattle.csa_cutting.specs.Lines.{Lines, HasNoLineEnd}
use Rattle.host_and_sample.proofs.WholeLines.{IsWhole, AllWhole, following, both, cut_back, login_word, move_visible, number, plain_visible, text, stated_run, unspaced_all, visible_run}
use Rattle.host_and_sample.specs.declared.config.HostConfig.{HostConfig}
use Rattle.host_and_sample.specs.declared.outcome.Outcome.{Outcome}
use Rattle.host_and_sample.specs.declared.outcome.Outcome.TheVariants.{Repetition, Perpetual, MaxMoves}
use Rattle.host_and_sample.specs.Host.{HostState, HostRow, HostTableRow, HostMoves, BeforeLogin, AfterSummary, InPlay, IsHostConfig, IsLoginWord, name_for, summary_lines, outcome_lines, moved_line, waiting, offered, playing, decided, ended, in_table, skipped}
use Rattle.host_and_sample.specs.Host as row
use Rattle.host_and_sample.specs.HostLogs.{HostStep, HostLeads, begins, next, client_lines, written}
use Rattle.session_lines.specs.Texts.{text_of, without_last_spaces, with_time}

-- 1. Parts of lines
timed : (front : List ℕ) (seconds : ℕ) → HasNoLineEnd front → IsWhole (with_time front seconds)
timed front seconds run =
    following front (codes ",T" ++ decimal seconds) run (following (codes ",T") (decimal seconds) (stated_run (codes ",T") refl) (number seconds))

moved : (g : Played) (m : Move) (seconds : ℕ) → IsWhole (moved_line g m seconds)
moved g m seconds =
    let front = move_text (now_of g).side m in
    timed front seconds (visible_run front (move_visible (now_of g).side m))

-- 2. Lines of each row
named : (c : HostConfig) (n : List ℕ) (color : Color) → IsHostConfig c → IsLoginWord n → IsWhole (name_for c n color)
named c n color kept h = by_side (same_color color c.client)
  where
    by_side : (same : Bool) → IsWhole (cond same n c.name.bytes)
    by_side true = login_word n h
    by_side false = login_word c.name.bytes kept.name

turn_line : (color : Color) → IsWhole (codes "Your_Turn:" ++ sign color ∷ [])
turn_line Black = text _ refl refl (omega arith)
turn_line White = text _ refl refl (omega arith)

summary_whole : (c : HostConfig) (n : List ℕ) → IsHostConfig c → IsLoginWord n → AllWhole (summary_lines c n)
summary_whole c n kept h = (
  text _ refl refl (omega arith),
  (
    following (codes "Game_ID:") c.id.bytes (stated_run (codes "Game_ID:") refl) (login_word c.id.bytes kept.id),
    (
      following (codes "Name+:") (name_for c n Black) (stated_run (codes "Name+:") refl) (named c n Black kept h),
      (
        following (codes "Name-:") (name_for c n White) (stated_run (codes "Name-:") refl) (named c n White kept h),
        (
          turn_line c.client,
          (
            text _ refl refl (omega arith),
            (
              following (codes "Max_Moves:") (decimal c.max_moves) (stated_run (codes "Max_Moves:") refl) (number c.max_moves),
              (
                text _ refl refl (omega arith),
                (
                  text _ refl refl (omega arith),
                  (
                    text _ refl refl (omega arith),
                    (
                      text _ refl refl (omega arith),
                      (text _ refl refl (omega arith), tt),
                    ),
                  ),
                ),
              ),
            ),
          ),
        ),
      ),
    ),
  ),
)

outcome_whole : (c : HostConfig) (o : Outcome) → AllWhole (outcome_lines c o)
outcome_whole c Repetition = (text _ refl refl (omega arith), (text _ refl refl (omega arith), tt))
outcome_whole c (Perpetual loser) = (text _ refl refl (omega arith), (result (same_color loser c.client), tt))
  where
    result : (lost : Bool) → IsWhole (cond lost (codes "#LOSE") (codes "#WIN"))
    result true = text _ refl refl (omega arith)
    result false = text _ refl refl (omega arith)
outcome_whole c MaxMoves = (text _ refl refl (omega arith), (text _ refl refl (omega arith), tt))

host_moves : (c : HostConfig) (g : Played) (lines : List (List ℕ)) (t : HostState) → HostMoves c g lines t → AllWhole lines
host_moves c g lines t r =
    elim r [
      | row.moves m first after l e ↦ rw l (moved g m 0, tt)
      | row.moves_last m outcome first after l e ↦ rw l (moved g m 0, outcome_whole c outcome)
      | row.resigns none l e ↦ rw l (timed (codes "%TORYO") 0 (stated_run (codes "%TORYO") refl), (text _ refl refl (omega arith), (text _ refl refl (omega arith), tt)))
    ]

-- 3. Each row: its lines, and the client's name that it keeps
abbrev KnowsLogin : HostState → Type 0
KnowsLogin waiting = Unit {0}
KnowsLogin (offered n) = IsLoginWord n
KnowsLogin (playing g) = Unit {0}
KnowsLogin decided = Unit {0}
KnowsLogin ended = Unit {0}

abbrev Fits : List (List ℕ) → HostState → Type 0
Fits lines t = AllWhole lines × KnowsLogin t

host_keeps : (c : HostConfig) (g : Played) (lines : List (List ℕ)) (t : HostState) → HostMoves c g lines t → KnowsLogin t
host_keeps c g lines t r =
    elim r [
      | row.moves m first after l e ↦ rw e tt
      | row.moves_last m outcome first after l e ↦ rw e tt
      | row.resigns none l e ↦ rw e tt
    ]

before_login : (c : HostConfig) (line : List ℕ) (lines : List (List ℕ)) (t : HostState) → IsHostConfig c → BeforeLogin c line lines t → Fits lines t
before_login c line lines t kept r =
    elim r [
      | row.logs_in n p h l e ↦
          let answer = following (codes "LOGIN:") (n ++ codes " OK") (stated_run (codes "LOGIN:") refl)
          (following n (codes " OK") (visible_run n (plain_visible n h.name.plain)) (text _ refl refl (omega arith))) in
          rw (l, e) ((answer, summary_whole c n kept h.name), h.name)
      | row.login_incorrect h k l e ↦ rw (l, e) ((text _ refl refl (omega arith), tt), tt)
    ]

after_summary : (c : HostConfig) (n line : List ℕ) (lines : List (List ℕ)) (t : HostState) → IsHostConfig c → IsLoginWord n
    → AfterSummary c n line lines t → Fits lines t
after_summary c n line lines t kept h r =
    let start = following (codes "START:") c.id.bytes (stated_run (codes "START:") refl) (login_word c.id.bytes kept.id) in
    let id_run = visible_run c.id.bytes (plain_visible c.id.bytes kept.id.plain) in
    let rejected = following (codes "REJECT:") (c.id.bytes ++ (codes " by " ++ n)) (stated_run (codes "REJECT:") refl)
    (following c.id.bytes (codes " by " ++ n) id_run (following (codes " by ") n (stated_run (codes " by ") refl) (login_word n h))) in
    elim r [
      | row.agrees a k l e ↦ rw (l, e) ((start, tt), tt)
      | row.agrees_host_first more a k m l ↦ rw l ((start, host_moves c row.even_game more t m), host_keeps c row.even_game more t m)
      | row.rejects a l e ↦ rw (l, e) ((rejected, tt), tt)
    ]

in_play : (c : HostConfig) (g : Played) (line : List ℕ) (seconds : ℕ) (lines : List (List ℕ)) (t : HostState)
    → InPlay c g line seconds lines t → Fits lines t
in_play c g line seconds lines t r =
    elim r [
      | row.client_moves m more s good after host l ↦
          rw l ((moved g m seconds, host_moves c (row.with_move g m) more t host), host_keeps c (row.with_move g m) more t host)
      | row.client_moves_last m outcome s good after l e ↦ rw (l, e) ((moved g m seconds, outcome_whole c outcome), tt)
      | row.client_errs s none l e ↦ rw (l, e) ((text _ refl refl (omega arith), (text _ refl refl (omega arith), tt)), tt)
      | row.client_resigns a l e ↦
          rw (l, e) ((timed (codes "%TORYO") seconds (stated_run (codes "%TORYO") refl), (text _ refl refl (omega arith), (text _ refl refl (omega arith), tt))), tt)
      | row.client_declares a l e ↦
          rw (l, e) ((timed (codes "%KACHI") seconds (stated_run (codes "%KACHI") refl), (text _ refl refl (omega arith), (text _ refl refl (omega arith), tt))), tt)
    ]

table_row : (c : HostConfig) (s : HostState) (line : List ℕ) (seconds : ℕ) (lines : List (List ℕ)) (t : HostState)
    → IsHostConfig c → KnowsLogin s → HostTableRow c s line seconds lines t → Fits lines t
table_row c s line seconds lines t kept h r =
    elim r [
      | row.before_login e b ↦ before_login c line lines t kept b
      | row.after_summary n e b ↦ after_summary c n line lines t kept (rw e at h) b
      | row.in_play g e b ↦ in_play c g line seconds lines t b
      | row.logs_out on a l e ↦ rw (l, e) ((text _ refl refl (omega arith), tt), tt)
    ]

any_row : (c : HostConfig) (s : HostState) (line : List ℕ) (seconds : ℕ) (lines : List (List ℕ)) (t : HostState)
    → IsHostConfig c → KnowsLogin s → HostRow c s line seconds lines t → Fits lines t
any_row c s line seconds lines t kept h r =
    elim r [
      | in_table b ↦ table_row c s line seconds lines t kept h b
      | skipped none l e ↦ rw (l, e) (tt, h)
    ]

log_fits : (c : HostConfig) (log : List HostStep) (s : HostState) → IsHostConfig c → HostLeads c log s → Fits (written log) s
log_fits c log s kept begins = (tt, tt)
log_fits c log s kept (next before from step to leads few r) =
    let so_far = log_fits c before from kept leads in
    let more = any_row c from step.line step.seconds step.to_client to kept so_far.1 r in
    let e : written (before ++ step ∷ []) ≡ written before ++ step.to_client =
    flat_map-append client_lines before (step ∷ []) ∙ ap (λ ls. written before ++ ls) (append-nil step.to_client) in
    (subst AllWhole (sym e) (both (written before) step.to_client so_far.0 more.0), more.1)

-- 4. The bytes, cut into lines
pub lines_cut : (c : HostConfig) (log : List HostStep) (s : HostState) → IsHostConfig c → HostLeads c log s → Lines (text_of (written log)) (written log) []
lines_cut c log s kept leads = cut_back [] (written log) tt (log_fits c log s kept leads).0

pub lines_unspaced : (c : HostConfig) (log : List HostStep) (s : HostState) → IsHostConfig c → HostLeads c log s
    → AllByRecursion (λ line. without_last_spaces line ≡ line) (written log)
lines_unspaced c log s kept leads = unspaced_all (written log) (log_fits c log s kept leads).0
