-- What a bridge sends is what its log allows.
use Rattle.std.proofs.Common.{◌≡◌, ℕ, ◌++◌, ◌⊎◌, inl, inr, true, false, List, [], ◌∷◌, Option, Some, None, codes, refl, ap, subst}
use Rattle.std.specs.List.{AllByRecursion, list_any}
use Rattle.shogi_board.specs.declared.color.Color.{Color}
use Rattle.shogi_board.specs.declared.moves.Move.{Move}
use Rattle.shogi_board.specs.Legal.{Legal}
use Rattle.csa_text.specs.Codes.{move_text}
use Rattle.record_game.specs.Game.{Game}
use Rattle.record_game.specs.Items.{AtMostOne}
use Rattle.bridge_table.specs.declared.config.Config.{Config}
use Rattle.bridge_table.specs.declared.state.EngineState.{EngineState}
use Rattle.bridge_table.specs.Asking.{MayAsk, AskLines, Asks, asked, not_asked}
use Rattle.bridge_table.specs.Events.{Event, Out}
use Rattle.bridge_table.specs.Logs.{Leads, next, following, Moved, Confirmed, game_confirmed, counted, answers, is_answer}
use Rattle.bridge_table.specs.Row.{TableRow, Row, in_table, unnamed, answer_line, login_line, gameover_line}
use Rattle.bridge_table.specs.Row as row
use Rattle.bridge_table.specs.Sending.{match_stated, IsAnswered, legal_move, toryo, kachi, OwnSent, is_position_line, AskedRight}
use Rattle.session_lines.specs.declared.server_words.GameResult.{GameResult}
use Rattle.session_lines.specs.declared.server_words.GameResult.TheVariants.{Win, Lose, Draw, Censored, Chudan}
use Rattle.bridge_table.specs.declared.state.Answer.TheVariants.{Move as move}
use Rattle.bridge_table.specs.State.{Match, Finish, Client, idle, logging_in, before_summary, summary, agreeing, playing, sent, reason, closing, ended, State, match_of, position_now, with_move}
use Rattle.bridge_table.specs.Summary.{Offer}
use Rattle.bridge_table.proofs.Courses.{Steps, Lines, agrees, hears_start, Agreed, confirmed_of, confirmed_first}
use Rattle.bridge_table.proofs.Fitting.{FitsState, log_fits, thinks_may_ask}
use Rattle.bridge_table.proofs.Onward.{step, TiedTo, log_tied}
use Rattle.bridge_table.proofs.Testing.{NoneOf, any_none}
use Rattle.bridge_table.proofs.Tied.{Tied, InPlay, IsOver}

-- 1. sent_legal
abbrev match_so : Color → Game → Match
match_so c g = record { client = c; game = g; slip = false }

may_so : (g : Match) (o : Offer) (moved : List Moved) → g.client ≡ o.client → g.game ≡ game_confirmed o moved → MayAsk g → MayAsk (match_stated o moved)
may_so g o moved e f may =
    let plain : MayAsk (match_so g.client g.game) = record { to_move = may.to_move; not_over = may.not_over; few = may.few } in
    subst (λ x. MayAsk (match_so o.client x)) f (subst (λ x. MayAsk (match_so x g.game)) e plain)

legal_so : (g : Match) (o : Offer) (moved : List Moved) (m : Move) → g.game ≡ game_confirmed o moved → Legal (position_now g) m → Legal (position_now (match_stated o moved)) m
legal_so g o moved m f legal = subst (λ (x : Game). Legal (position_now (match_so o.client x)) m) f legal

confirmed_in : (log : Steps) (g : Match) (waiting : Lines) (h : InPlay (counted log) g.client g.game (answers log) waiting) → Confirmed log h.offer h.moved
confirmed_in log g waiting h = confirmed_of log g.client g.game h.taken [] h.offer h.moved h.course

move_answered : (log : Steps) (g : Match) (m : Move) → InPlay (counted log) g.client g.game (answers log) [] → MayAsk g → Legal (position_now g) m → IsAnswered log (answer_line g (move m))
move_answered log g m h may legal =
    legal_move h.offer h.moved m (confirmed_in log g [] h) (may_so g h.offer h.moved h.course.client_is h.course.game_is may)
    (legal_so g h.offer h.moved m h.course.game_is legal) (ap (λ x. move_text x m) h.course.client_is)

no_answer : (log : Steps) (line : List ℕ) → is_answer line ≡ false → is_answer line ≡ true → IsAnswered log line
no_answer log line e f = absurd (let g = e in let h = f in cc)

abbrev Sends : Steps → Lines → Type 0
Sends log lines = AllByRecursion (λ line. is_answer line ≡ true → IsAnswered log line) lines

row_legal : (c : Config) (log : Steps) (s : State) (e : Event) (out : Out) (t : State) → TiedTo log s → FitsState s → TableRow c s e out t → Sends log out.to_server
row_legal c log s e out t tied fits r =
    elim r [
      | row.begins at ev o n ↦ rw o tt
      | row.greeted l at ev w o n ↦ rw o tt
      | row.readied l at ev w o n ↦ rw o (no_answer log (login_line c) refl, tt)
      | row.login_taken l at ev w o n ↦ rw o tt
      | row.login_refused at ev o n ↦ rw o tt
      | row.summary_begins at ev o n ↦ rw o tt
      | row.summary_line ls l h later at ev w x y o n ↦ rw o tt
      | row.summary_ends h p at ev w o n ↦ rw o (no_answer log (codes "AGREE") refl, tt)
      | row.summary_fails h at ev w o n ↦ rw o tt
      | row.started p l ls now at ev w q o n ↦ rw o tt
      | row.rejected p l at ev w o n ↦ rw o tt
      | row.engine_moves g l word m at b ev w v o n ↦
          rw o ((λ h. move_answered log g m (subst (Tied (counted log) (answers log)) b tied) (thinks_may_ask s g fits at b) v.legal), tt)
      | row.engine_resigns g l at b ev w o n ↦ rw o ((λ h. toryo refl), tt)
      | row.engine_wins g l at b ev w o n ↦ rw o ((λ h. kachi refl), tt)
      | row.engine_slips g l word at b ev w v o n ↦ rw o ((λ h. toryo refl), tt)
      | row.engine_late l word at b ev w o n ↦ rw o tt
      | row.move_refused p l cause at ev w v o n ↦ rw o tt
      | row.move_unsent p l color m at ev w j never o n ↦ rw o tt
      | row.move_confirmed p l color m ls now at ev w j own q o n ↦ rw o tt
      | row.ending_stated p l kept at ev w v o n ↦ rw o tt
      | row.reason_stated g f l at ev w v o n ↦ rw o tt
      | row.result_stated g f l q at ev w o n ↦ rw o (no_answer log (codes "LOGOUT") refl, tt)
      | row.closes g f q at ev o n ↦ rw o tt
      | row.engine_gone at ev o n ↦ rw o tt
      | row.server_gone at b ev o n ↦ rw o tt
      | row.line_too_long ev o n ↦ rw o tt
    ]

pub sent_legal : (c : Config) (log : Steps) (s t : State) (e : Event) (out : Out) → Leads c log s → Row c s e out t → Sends log out.to_server
sent_legal c log s t e out leads r =
    elim r [
      | in_table h ↦ row_legal c log s e out t (log_tied c log s leads).0 (log_fits c log s leads) h.1
      | unnamed none o n ↦ rw o tt
    ]

-- 2. sent_once
abbrev Once : Steps → Lines → Type 0
Once log lines = list_any is_answer lines ≡ true → AtMostOne lines × OwnSent log []

none_sent : (log : Steps) → Once log []
none_sent log h = absurd (let e : false ≡ true = h in cc)

other_sent : (log : Steps) (line : List ℕ) → is_answer line ≡ false → Once log (line ∷ [])
other_sent log line e h = absurd (let f : false ≡ true = rw e at h in cc)

own_sent : (log : Steps) (g : Match) → InPlay (counted log) g.client g.game (answers log) [] → OwnSent log []
own_sent log g h = record { offer = h.offer; moved = h.moved; confirmed = confirmed_in log g [] h; sent = h.answered; one = tt }

one_sent : (log : Steps) (g : Match) (line : List ℕ) → InPlay (counted log) g.client g.game (answers log) [] → Once log (line ∷ [])
one_sent log g line h any = (tt, own_sent log g h)

row_once : (c : Config) (log : Steps) (s : State) (e : Event) (out : Out) (t : State) → TiedTo log s → TableRow c s e out t → Once log out.to_server
row_once c log s e out t tied r =
    elim r [
      | row.begins at ev o n ↦ rw o (none_sent log)
      | row.greeted l at ev w o n ↦ rw o (none_sent log)
      | row.readied l at ev w o n ↦ rw o (other_sent log (login_line c) refl)
      | row.login_taken l at ev w o n ↦ rw o (none_sent log)
      | row.login_refused at ev o n ↦ rw o (none_sent log)
      | row.summary_begins at ev o n ↦ rw o (none_sent log)
      | row.summary_line ls l h later at ev w x y o n ↦ rw o (none_sent log)
      | row.summary_ends h p at ev w o n ↦ rw o (other_sent log (codes "AGREE") refl)
      | row.summary_fails h at ev w o n ↦ rw o (none_sent log)
      | row.started p l ls now at ev w q o n ↦ rw o (none_sent log)
      | row.rejected p l at ev w o n ↦ rw o (none_sent log)
      | row.engine_moves g l word m at b ev w v o n ↦ rw o (one_sent log g (answer_line g (move m)) (subst (Tied (counted log) (answers log)) b tied))
      | row.engine_resigns g l at b ev w o n ↦ rw o (one_sent log g (codes "%TORYO") (subst (Tied (counted log) (answers log)) b tied))
      | row.engine_wins g l at b ev w o n ↦ rw o (one_sent log g (codes "%KACHI") (subst (Tied (counted log) (answers log)) b tied))
      | row.engine_slips g l word at b ev w v o n ↦ rw o (one_sent log g (codes "%TORYO") (subst (Tied (counted log) (answers log)) b tied))
      | row.engine_late l word at b ev w o n ↦ rw o (none_sent log)
      | row.move_refused p l cause at ev w v o n ↦ rw o (none_sent log)
      | row.move_unsent p l color m at ev w j never o n ↦ rw o (none_sent log)
      | row.move_confirmed p l color m ls now at ev w j own q o n ↦ rw o (none_sent log)
      | row.ending_stated p l kept at ev w v o n ↦ rw o (none_sent log)
      | row.reason_stated g f l at ev w v o n ↦ rw o (none_sent log)
      | row.result_stated g f l q at ev w o n ↦ rw o (other_sent log (codes "LOGOUT") refl)
      | row.closes g f q at ev o n ↦ rw o (none_sent log)
      | row.engine_gone at ev o n ↦ rw o (none_sent log)
      | row.server_gone at b ev o n ↦ rw o (none_sent log)
      | row.line_too_long ev o n ↦ rw o (none_sent log)
    ]

pub sent_once : (c : Config) (log : Steps) (s t : State) (e : Event) (out : Out) → Leads c log s → Row c s e out t → Once log out.to_server
sent_once c log s t e out leads r =
    elim r [
      | in_table h ↦ row_once c log s e out t (log_tied c log s leads).0 h.1
      | unnamed none o n ↦ rw o (none_sent log)
    ]

abbrev Sent : Steps → Type 0
Sent log = (waiting : Lines) × OwnSent log waiting

agreed_sent : (log : Steps) (o : Offer) → answers log ≡ [] → Agreed (counted log) o → NoneOf hears_start (following agrees (counted log)) → Sent log
agreed_sent log o none agreed quiet = (
  [],
  record {
    offer = o;
    moved = [];
    confirmed = confirmed_first log o agreed quiet;
    sent = none;
    one = tt;
  },
)

over_sent : (log : Steps) (client : Color) (game : Game) (f : Finish) (result : Option GameResult) → IsOver (counted log) client game (answers log) f result → Sent log
over_sent log client game f result h = (
  h.waiting,
  record {
    offer = h.offer;
    moved = h.moved;
    confirmed = confirmed_of log client game h.taken (h.line ∷ h.rest) h.offer h.moved h.course;
    sent = h.answered;
    one = h.one;
  },
)

all_sent : (log : Steps) (c : Client) → Tied (counted log) (answers log) c → list_any agrees (counted log) ≡ true → Sent log
all_sent log idle h any = absurd (any_none agrees (counted log) h.0.none any)
all_sent log logging_in h any = absurd (any_none agrees (counted log) h.0.none any)
all_sent log before_summary h any = absurd (any_none agrees (counted log) h.0.none any)
all_sent log (summary x) h any = absurd (any_none agrees (counted log) h.0.none any)
all_sent log (agreeing o) h any = agreed_sent log o h.0 h.1 h.2
all_sent log (playing g) h any = ([], own_sent log g h)
all_sent log (sent g x) h any = (answer_line g x ∷ [], record { offer = h.offer; moved = h.moved; confirmed = confirmed_in log g _ h; sent = h.answered; one = tt })
all_sent log (reason g f) h any = over_sent log g.client g.game f None h
all_sent log (closing g f o) h any = over_sent log g.client g.game f (Some o) h
all_sent log (ended g f o) h any = over_sent log g.client g.game f (Some o) h

pub log_sent : (c : Config) (log : Steps) (s : State) → Leads c log s → list_any agrees (counted log) ≡ true → Sent log
log_sent c log s leads any = all_sent log s.client (log_tied c log s leads).0 any

-- 3. asked_right
lines_so : (c : Config) (g : Match) (o : Offer) (moved : List Moved) (lines : Lines) → g.game ≡ game_confirmed o moved → AskLines c g lines → AskLines c (match_stated o moved) lines
lines_so c g o moved lines f q =
    let plain : AskLines c (match_so o.client g.game) lines = record { position = q.position; of_game = q.of_game; whole = q.whole } in
    subst (λ x. AskLines c (match_so o.client x) lines) f plain

abbrev Right : Config → Steps → Lines → Type 0
Right c log lines = list_any is_position_line lines ≡ true → AskedRight c log lines

not_position : (c : Config) (log : Steps) (lines : Lines) → list_any is_position_line lines ≡ false → Right c log lines
not_position c log lines e h = absurd (let f = e in let g = h in cc)

over_line : (o : GameResult) → list_any is_position_line (gameover_line o ∷ codes "quit" ∷ []) ≡ false
over_line Win = refl
over_line Lose = refl
over_line Draw = refl
over_line Censored = refl
over_line Chudan = refl

asked_in : (c : Config) (log : Steps) (g : Match) (lines asking : Lines) → InPlay (counted log) g.client g.game (answers log) [] → AskLines c g asking
    → (lines ≡ asking) ⊎ (lines ≡ codes "usinewgame" ∷ asking) → AskedRight c log lines
asked_in c log g lines asking h q whole = record {
  offer = h.offer;
  moved = h.moved;
  confirmed = confirmed_in log g [] h;
  asked = asking;
  of_game = lines_so c g h.offer h.moved asking h.course.game_is q;
  whole = whole;
}

first_asked : (c : Config) (log : Steps) (g : Match) (old now : EngineState) (lines : Lines) → InPlay (counted log) g.client g.game (answers log) [] → Asks c g old lines now
    → Right c log (codes "usinewgame" ∷ lines)
first_asked c log g old now lines h q =
    elim q [
      | asked may ls e ↦ λ any. asked_in c log g (codes "usinewgame" ∷ lines) lines h ls (inr refl)
      | not_asked never ls e ↦ rw ls (not_position c log (codes "usinewgame" ∷ []) refl)
    ]

then_asked : (c : Config) (log : Steps) (g : Match) (old now : EngineState) (lines : Lines) → InPlay (counted log) g.client g.game (answers log) [] → Asks c g old lines now
    → Right c log lines
then_asked c log g old now lines h q =
    elim q [
      | asked may ls e ↦ λ any. asked_in c log g lines lines h ls (inl refl)
      | not_asked never ls e ↦ rw ls (not_position c log [] refl)
    ]

-- of the state after the row, which is tied to the log with it
row_asked : (c : Config) (log : Steps) (s : State) (e : Event) (out : Out) (t : State) → TiedTo log t → TableRow c s e out t → Right c log out.to_engine
row_asked c log s e out t tied r =
    elim r [
      | row.begins at ev o n ↦ rw o (not_position c log _ refl)
      | row.greeted l at ev w o n ↦ rw o (not_position c log _ refl)
      | row.readied l at ev w o n ↦ rw o (not_position c log _ refl)
      | row.login_taken l at ev w o n ↦ rw o (not_position c log _ refl)
      | row.login_refused at ev o n ↦ rw o (not_position c log _ refl)
      | row.summary_begins at ev o n ↦ rw o (not_position c log _ refl)
      | row.summary_line ls l h later at ev w x y o n ↦ rw o (not_position c log _ refl)
      | row.summary_ends h p at ev w o n ↦ rw o (not_position c log _ refl)
      | row.summary_fails h at ev w o n ↦ rw o (not_position c log _ refl)
      | row.started p l ls now at ev w q o n ↦
          let h : Tied (counted log) (answers log) (playing (match_of p)) = subst (Tied (counted log) (answers log)) (ap (λ (x : State). x.client) n) tied in
          rw o (first_asked c log (match_of p) s.engine now ls h q)
      | row.rejected p l at ev w o n ↦ rw o (not_position c log _ refl)
      | row.engine_moves g l word m at b ev w v o n ↦ rw o (not_position c log _ refl)
      | row.engine_resigns g l at b ev w o n ↦ rw o (not_position c log _ refl)
      | row.engine_wins g l at b ev w o n ↦ rw o (not_position c log _ refl)
      | row.engine_slips g l word at b ev w v o n ↦ rw o (not_position c log _ refl)
      | row.engine_late l word at b ev w o n ↦ rw o (not_position c log _ refl)
      | row.move_refused p l cause at ev w v o n ↦ rw o (not_position c log _ refl)
      | row.move_unsent p l color m at ev w j never o n ↦ rw o (not_position c log _ refl)
      | row.move_confirmed p l color m ls now at ev w j own q o n ↦
          let h : Tied (counted log) (answers log) (playing (with_move p.game m)) = subst (Tied (counted log) (answers log)) (ap (λ (x : State). x.client) n) tied in
          rw o (then_asked c log (with_move p.game m) s.engine now ls h q)
      | row.ending_stated p l kept at ev w v o n ↦ rw o (not_position c log _ refl)
      | row.reason_stated g f l at ev w v o n ↦ rw o (not_position c log _ refl)
      | row.result_stated g f l q at ev w o n ↦ rw o (not_position c log _ (over_line q))
      | row.closes g f q at ev o n ↦ rw o (not_position c log _ refl)
      | row.engine_gone at ev o n ↦ rw o (not_position c log _ refl)
      | row.server_gone at b ev o n ↦ rw o (not_position c log _ refl)
      | row.line_too_long ev o n ↦ rw o (not_position c log _ refl)
    ]

pub asked_right : (c : Config) (log : Steps) (s t : State) (e : Event) (out : Out) → Leads c log s → Row c s e out t
    → Right c (log ++ step e out t.status ∷ []) out.to_engine
asked_right c log s t e out leads r =
    let tied = (log_tied c (log ++ step e out t.status ∷ []) t (next log s e out t leads r)).0 in
    elim r [
      | in_table h ↦ row_asked c (log ++ step e out t.status ∷ []) s e out t tied h.1
      | unnamed none o n ↦ rw o (not_position c _ [] refl)
    ]
