-- What a log that grows has confirmed.
use Rattle.std.proofs.Common.{◌≡◌, ℕ, ◌++◌, Bool, true, false, List, [], ◌∷◌, Some, None, codes, refl, sym, ap, subst, ◌∙◌, append_assoc, map}
use Rattle.std.specs.List.{AllByRecursion, AllZip, filter}
use Rattle.std.proofs.lemmas.List.{append-nil, map-append}
use Rattle.std.proofs.lemmas.List.Elements.{filter-append, filter_map-append}
use Rattle.shogi_board.specs.declared.color.Color.{Color}
use Rattle.record_game.specs.Game.{Game, Timed}
use Rattle.bridge_table.specs.Logs.{Step, hears, sends, from_server, server_lines, following, ahead, after_login, is_begin_line, EndsPlay, IsWithinPlay, Moved, timed_of, IsMoved, Confirmed, game_confirmed, counted}
use Rattle.session_lines.specs.MoveLines.{is_move_line}
use Rattle.session_lines.specs.ServerLines.{is_login_ok, is_start_line}
use Rattle.bridge_table.specs.State.{game_with}
use Rattle.bridge_table.specs.Summary.{SummaryContent, CountsAs, Offer, TellsOffer, TellsSummary}
use Rattle.bridge_table.proofs.Testing.{NoneOf, HasOne, all_more, has_more, has_found, after_found, following_more, ahead_found, ahead_more, any_has, after_none}

abbrev pub Steps : Type 0
Steps = List Step

abbrev pub Lines : Type 0
Lines = List (List ℕ)

abbrev pub sends_login : Step → Bool
sends_login step = sends (codes "LOGIN ") step

abbrev pub agrees : Step → Bool
agrees step = sends (codes "AGREE") step

abbrev pub hears_ok : Step → Bool
hears_ok step = hears is_login_ok step

abbrev pub hears_begin : Step → Bool
hears_begin step = hears is_begin_line step

abbrev pub hears_start : Step → Bool
hears_start step = hears is_start_line step

-- the line that the step received, if any
abbrev pub extra : Step → Lines
extra step = server_lines (step ∷ [])

pub lines_more : (xs : Steps) (x : Step) → server_lines (xs ++ x ∷ []) ≡ server_lines xs ++ extra x
lines_more xs x = filter_map-append from_server xs (x ∷ [])

-- 1. up to the summary
pub record Logged (k : Steps) : Type 0 where
  pub login : HasOne sends_login k
  pub ok : HasOne hears_ok (following sends_login k)

pub login_more : (k : Steps) (x : Step) → Logged k → after_login (k ++ x ∷ []) ≡ after_login k ++ x ∷ []
login_more k x h = ap (following hears_ok) (following_more sends_login k (x ∷ []) h.login) ∙ following_more hears_ok (following sends_login k) (x ∷ []) h.ok

pub logged_more : (k : Steps) (x : Step) → Logged k → Logged (k ++ x ∷ [])
logged_more k x h = record {
  login = has_more sends_login k (x ∷ []) h.login;
  ok = subst (HasOne hears_ok) (sym (following_more sends_login k (x ∷ []) h.login)) (has_more hears_ok (following sends_login k) (x ∷ []) h.ok);
}

pub record Begun (k : Steps) (h : SummaryContent) : Type 0 where
  pub logged : Logged k
  pub begun : HasOne hears_begin (after_login k)
  pub counts : CountsAs (server_lines (following hears_begin (after_login k))) h

begin_more : (k : Steps) (x : Step) → Logged k → HasOne hears_begin (after_login k)
    → following hears_begin (after_login (k ++ x ∷ [])) ≡ following hears_begin (after_login k) ++ x ∷ []
begin_more k x h b = ap (following hears_begin) (login_more k x h) ∙ following_more hears_begin (after_login k) (x ∷ []) b

pub begun_more : (k : Steps) (x : Step) (h new : SummaryContent) → Begun k h
    → CountsAs (server_lines (following hears_begin (after_login k)) ++ extra x) new → Begun (k ++ x ∷ []) new
begun_more k x h new b c = record {
  logged = logged_more k x b.logged;
  begun = subst (HasOne hears_begin) (sym (login_more k x b.logged)) (has_more hears_begin (after_login k) (x ∷ []) b.begun);
  counts =
      subst (λ ls. CountsAs ls new)
      (sym (ap server_lines (begin_more k x b.logged b.begun) ∙ lines_more (following hears_begin (after_login k)) x)) c;
}

abbrev pub summary_of : Steps → Lines
summary_of k = server_lines (following hears_begin (after_login (ahead agrees k)))

pub record Agreed (k : Steps) (o : Offer) : Type 0 where
  pub has : HasOne agrees k
  pub stated : TellsSummary (summary_of k) o

pub agreed_more : (k : Steps) (x : Step) (o : Offer) → Agreed k o → Agreed (k ++ x ∷ []) o
agreed_more k x o h = record {
  has = has_more agrees k (x ∷ []) h.has;
  stated = subst (λ s. TellsSummary (server_lines (following hears_begin (after_login s))) o) (sym (ahead_more agrees k (x ∷ []) h.has)) h.stated;
}

pub agreed_now : (k : Steps) (x : Step) (h : SummaryContent) (o : Offer) → NoneOf agrees k → agrees x ≡ true → Begun k h → TellsOffer h o → Agreed (k ++ x ∷ []) o
agreed_now k x h o none e b tells = record {
  has = has_found agrees k x none e;
  stated = subst (λ s. TellsSummary (server_lines (following hears_begin (after_login s))) o) (sym (ahead_found agrees k x none e)) (h, b.counts, tells);
}

-- 2. the course of play
abbrev pub started_of : Steps → Lines
started_of k = server_lines (following hears_start (following agrees k))

pub record Course (k : Steps) (client : Color) (game : Game) (taken rest : Lines) (o : Offer) (moved : List Moved) : Type 0 where
  pub agreed : Agreed k o
  pub started : HasOne hears_start (following agrees k)
  pub client_is : client ≡ o.client
  pub game_is : game ≡ game_confirmed o moved
  pub whole : started_of k ≡ taken ++ rest
  pub goes_on : AllByRecursion IsWithinPlay taken
  pub ends : EndsPlay rest
  pub spelt : AllZip IsMoved (filter is_move_line taken) moved

started_more : (k : Steps) (x : Step) → HasOne agrees k → HasOne hears_start (following agrees k) → started_of (k ++ x ∷ []) ≡ started_of k ++ extra x
started_more k x h s =
    ap (λ ys. server_lines (following hears_start ys)) (following_more agrees k (x ∷ []) h)
    ∙ (ap server_lines (following_more hears_start (following agrees k) (x ∷ []) s) ∙ lines_more (following hears_start (following agrees k)) x)

pub course_more : (k : Steps) (x : Step) (client : Color) (game new : Game) (taken rest taken′ rest′ : Lines) (o : Offer) (moved moved′ : List Moved)
    → Course k client game taken rest o moved → new ≡ game_confirmed o moved′ → (taken ++ rest) ++ extra x ≡ taken′ ++ rest′
    → AllByRecursion IsWithinPlay taken′ → EndsPlay rest′ → AllZip IsMoved (filter is_move_line taken′) moved′
    → Course (k ++ x ∷ []) client new taken′ rest′ o moved′
course_more k x client game new taken rest taken′ rest′ o moved moved′ c g w on ends spelt = record {
  agreed = agreed_more k x o c.agreed;
  started = subst (HasOne hears_start) (sym (following_more agrees k (x ∷ []) c.agreed.has)) (has_more hears_start (following agrees k) (x ∷ []) c.started);
  client_is = c.client_is;
  game_is = g;
  whole = started_more k x c.agreed.has c.started ∙ (ap (λ ls. ls ++ extra x) c.whole ∙ w);
  goes_on = on;
  ends = ends;
  spelt = spelt;
}

-- no line was received
pub course_quiet : (k : Steps) (x : Step) (client : Color) (game : Game) (taken : Lines) (o : Offer) (moved : List Moved)
    → Course k client game taken [] o moved → from_server x ≡ None → Course (k ++ x ∷ []) client game taken [] o moved
course_quiet k x client game taken o moved c e =
    let none : extra x ≡ [] = rw e refl in
    course_more k x client game game taken [] taken [] o moved moved c c.game_is
    (ap (λ ls. (taken ++ []) ++ ls) none ∙ append-nil (taken ++ [])) c.goes_on tt c.spelt

pub one_extra : (x : Step) (line : List ℕ) → from_server x ≡ Some line → extra x ≡ line ∷ []
one_extra x line e = rw e refl

with_line : (taken : Lines) (line : List ℕ) (x : Step) → from_server x ≡ Some line → (taken ++ []) ++ extra x ≡ (taken ++ line ∷ []) ++ []
with_line taken line x e =
    ap (λ ls. (taken ++ []) ++ ls) (one_extra x line e)
    ∙ (ap (λ ls. ls ++ line ∷ []) (append-nil taken) ∙ sym (append-nil (taken ++ line ∷ [])))

-- a line that is no move, and does not end play
pub course_skips : (k : Steps) (x : Step) (client : Color) (game : Game) (taken : Lines) (o : Offer) (moved : List Moved) (line : List ℕ)
    → Course k client game taken [] o moved → from_server x ≡ Some line → IsWithinPlay line → is_move_line line ≡ false
    → Course (k ++ x ∷ []) client game (taken ++ line ∷ []) [] o moved
course_skips k x client game taken o moved line c e on other =
    let kept : filter is_move_line (taken ++ line ∷ []) ≡ filter is_move_line taken =
    filter-append is_move_line taken (line ∷ []) ∙ (ap (λ ls. filter is_move_line taken ++ ls) (rw other refl) ∙ append-nil (filter is_move_line taken)) in
    course_more k x client game game taken [] (taken ++ line ∷ []) [] o moved moved c c.game_is (with_line taken line x e)
    (all_more IsWithinPlay taken line c.goes_on on) tt (subst (λ ls. AllZip IsMoved ls moved) (sym kept) c.spelt)

zip_more : (ls : Lines) (ms : List Moved) (line : List ℕ) (m : Moved) → AllZip IsMoved ls ms → IsMoved line m → AllZip IsMoved (ls ++ line ∷ []) (ms ++ m ∷ [])
zip_more [] [] line m h k = (k, tt)
zip_more [] (n ∷ ms) line m h k = absurd h
zip_more (l ∷ ls) [] line m h k = absurd h
zip_more (l ∷ ls) (n ∷ ms) line m h k = (h.0, zip_more ls ms line m h.1 k)

same_game : (g : Game) (a b : List Timed) → a ≡ b → game_with g a ≡ game_with g b
same_game g a b e = ap (game_with g) e

game_more : (o : Offer) (moved : List Moved) (m : Moved) → game_with (game_confirmed o moved) (m.played ∷ []) ≡ game_confirmed o (moved ++ m ∷ [])
game_more o moved m =
    ap (λ (ts : List Timed). record o.game { moves = ts })
    (append_assoc o.game.moves (map timed_of moved) (m.played ∷ []) ∙ ap (λ (ts : List Timed). o.game.moves ++ ts) (sym (map-append timed_of moved (m ∷ []))))

-- a line that spells a move
pub course_moves : (k : Steps) (x : Step) (client : Color) (game : Game) (taken : Lines) (o : Offer) (moved : List Moved) (line : List ℕ) (m : Moved)
    → Course k client game taken [] o moved → from_server x ≡ Some line → IsWithinPlay line → is_move_line line ≡ true → IsMoved line m
    → Course (k ++ x ∷ []) client (game_with game (m.played ∷ [])) (taken ++ line ∷ []) [] o (moved ++ m ∷ [])
course_moves k x client game taken o moved line m c e on sign tells =
    let kept : filter is_move_line (taken ++ line ∷ []) ≡ filter is_move_line taken ++ line ∷ [] =
    filter-append is_move_line taken (line ∷ []) ∙ ap (λ ls. filter is_move_line taken ++ ls) (rw sign refl) in
    course_more k x client game (game_with game (m.played ∷ [])) taken [] (taken ++ line ∷ []) [] o moved (moved ++ m ∷ []) c
    (ap (λ (g : Game). game_with g (m.played ∷ [])) c.game_is ∙ game_more o moved m) (with_line taken line x e)
    (all_more IsWithinPlay taken line c.goes_on on) tt
    (subst (λ ls. AllZip IsMoved ls (moved ++ m ∷ [])) (sym kept) (zip_more (filter is_move_line taken) moved line m c.spelt tells))

-- the line at which play ends
pub course_ends : (k : Steps) (x : Step) (client : Color) (game : Game) (taken : Lines) (o : Offer) (moved : List Moved) (line : List ℕ)
    → Course k client game taken [] o moved → from_server x ≡ Some line → EndsPlay (line ∷ []) → Course (k ++ x ∷ []) client game taken (line ∷ []) o moved
course_ends k x client game taken o moved line c e ends =
    course_more k x client game game taken [] taken (line ∷ []) o moved moved c c.game_is
    (ap (λ ls. (taken ++ []) ++ ls) (one_extra x line e) ∙ ap (λ ls. ls ++ line ∷ []) (append-nil taken)) c.goes_on ends c.spelt

-- any line after it
pub course_over : (k : Steps) (x : Step) (client : Color) (game : Game) (taken : Lines) (line : List ℕ) (rest : Lines) (o : Offer) (moved : List Moved)
    → Course k client game taken (line ∷ rest) o moved → Course (k ++ x ∷ []) client game taken (line ∷ (rest ++ extra x)) o moved
course_over k x client game taken line rest o moved c =
    course_more k x client game game taken (line ∷ rest) taken (line ∷ (rest ++ extra x)) o moved moved c c.game_is
    (append_assoc taken (line ∷ rest) (extra x)) c.goes_on c.ends c.spelt

-- play begins
pub course_begins : (k : Steps) (x : Step) (o : Offer) → Agreed k o → NoneOf hears_start (following agrees k) → hears_start x ≡ true
    → Course (k ++ x ∷ []) o.client o.game [] [] o []
course_begins k x o agreed none e =
    let more : following agrees (k ++ x ∷ []) ≡ following agrees k ++ x ∷ [] = following_more agrees k (x ∷ []) agreed.has in
    record {
      agreed = agreed_more k x o agreed;
      started = subst (HasOne hears_start) (sym more) (has_found hears_start (following agrees k) x none e);
      client_is = refl;
      game_is = ap (λ (ts : List Timed). record o.game { moves = ts }) (sym (append-nil o.game.moves));
      whole = ap (λ ys. server_lines (following hears_start ys)) more ∙ ap server_lines (after_found hears_start (following agrees k) x none e);
      goes_on = tt;
      ends = tt;
      spelt = tt;
    }

abbrev pub confirmed_of : (log : Steps) (client : Color) (game : Game) (taken rest : Lines) (o : Offer) (moved : List Moved)
    → Course (counted log) client game taken rest o moved → Confirmed log o moved
confirmed_of log client game taken rest o moved c = record {
  agreed = any_has agrees (counted log) c.agreed.has;
  stated = c.agreed.stated;
  taken = taken;
  rest = rest;
  lines_are = record { whole = c.whole; goes_on = c.goes_on; ends = c.ends };
  spelt = c.spelt;
}

abbrev pub confirmed_first : (log : Steps) (o : Offer) → Agreed (counted log) o → NoneOf hears_start (following agrees (counted log)) → Confirmed log o []
confirmed_first log o agreed none = record {
  agreed = any_has agrees (counted log) agreed.has;
  stated = agreed.stated;
  taken = [];
  rest = [];
  lines_are = record { whole = ap server_lines (after_none hears_start (following agrees (counted log)) none); goes_on = tt; ends = tt };
  spelt = tt;
}
