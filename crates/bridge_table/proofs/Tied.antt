-- A bridge's state is tied to what its log confirmed and answered.
use Rattle.std.proofs.Common.{◌≡◌, ℕ, ◌++◌, ◌⊎◌, inl, inr, true, false, List, [], ◌∷◌, Option, Some, None, codes, refl, sym, ap, subst, ◌∙◌, map}
use Rattle.std.proofs.lemmas.List.{append-nil, map-append}
use Rattle.std.proofs.lemmas.List.Elements.{filter_map-append}
use Rattle.shogi_board.specs.declared.color.Color.{Color}
use Rattle.shogi_board.specs.declared.color.Color.TheVariants.{Black, White}
use Rattle.shogi_board.specs.Pieces.{same_color}
use Rattle.shogi_board.specs.declared.moves.Move.{Move}
use Rattle.shogi_rules.proofs.Games.{all-of-none, legal-of-none}
use Rattle.shogi_rules.specs.Play.{Answers}
use Rattle.shogi_rules.specs.Positions.{IsGame, MayFollow, played}
use Rattle.shogi_rules.specs.Rules.{Kept}
use Rattle.shogi_board.specs.Rules.{all_rules}
use Rattle.csa_text.specs.Codes.{move_text}
use Rattle.record_game.specs.Game.{Game, Timed, move_of}
use Rattle.record_game.specs.Items.{AtMostOne}
use Rattle.bridge_table.specs.Logs.{Step, from_server, server_lines, following, after_login, EndsPlay, IsWithinPlay, Moved}
use Rattle.session_lines.specs.MoveLines.{is_move_line}
use Rattle.bridge_table.specs.Row.{Play, in_play, before_result, Judged, IsExpected, answer_line}
use Rattle.bridge_table.specs.Sending.{own_text, own_texts}
use Rattle.session_lines.specs.declared.server_words.GameResult.{GameResult}
use Rattle.session_lines.specs.ServerLines.{is_hash_line, outcome_of}
use Rattle.bridge_table.specs.declared.state.Answer.TheVariants.{Move as move, Toryo as toryo, Kachi as kachi}
use Rattle.bridge_table.specs.State.{Match, Finish, nothing_stated, Client, idle, logging_in, before_summary, summary, agreeing, playing, sent, reason, closing, ended, State, match_line, position_now, game_with}
use Rattle.bridge_table.specs.Summary.{CountsAs, Offer}
use Rattle.bridge_table.proofs.Courses.{Steps, Lines, sends_login, agrees, hears_ok, hears_begin, hears_start, extra, one_extra, Logged, logged_more, login_more, Begun, begun_more, Agreed, agreed_more, Course, course_quiet, course_skips, course_moves, course_ends, course_over}
use Rattle.bridge_table.proofs.EndStated.{EndReport, after_hash, stated_hash, stated_hash_more, stated_more, stated_closed}
use Rattle.bridge_table.proofs.Fitting.{Fits, right_side}
use Rattle.bridge_table.proofs.Testing.{NoneOf, HasOne, none_more, has_more, following_more}

-- 1. the ties
-- before AGREE nothing was answered
pub record Early (k : Steps) (a : Lines) : Type 0 where
  pub none : NoneOf agrees k
  pub nothing : a ≡ []

pub record InPlay (k : Steps) (client : Color) (game : Game) (a waiting : Lines) : Type 0 where
  pub offer : Offer
  pub moved : List Moved
  pub taken : Lines
  pub course : Course k client game taken [] offer moved
  pub answered : a ≡ own_texts offer.client moved ++ waiting
  pub legal : IsGame game.start (map move_of game.moves)

-- the lines from the end of play on say this of it, and have this result, if any
pub record IsOver (k : Steps) (client : Color) (game : Game) (a : Lines) (f : Finish) (result : Option GameResult) : Type 0 where
  pub offer : Offer
  pub moved : List Moved
  pub taken : Lines
  pub line : List ℕ
  pub rest : Lines
  pub course : Course k client game taken (line ∷ rest) offer moved
  pub stated : EndReport (line ∷ rest) f result
  pub waiting : Lines
  pub answered : a ≡ own_texts offer.client moved ++ waiting
  pub one : AtMostOne waiting

abbrev pub Tied : Steps → Lines → Client → Type 0
Tied k a idle = Early k a × NoneOf sends_login k
Tied k a logging_in = Early k a × HasOne sends_login k × NoneOf hears_ok (following sends_login k)
Tied k a before_summary = Early k a × Logged k × NoneOf hears_begin (after_login k)
Tied k a (summary h) = Early k a × Begun k h
Tied k a (agreeing o) = (a ≡ []) × Agreed k o × NoneOf hears_start (following agrees k)
Tied k a (playing g) = InPlay k g.client g.game a []
Tied k a (sent g answer) = InPlay k g.client g.game a (answer_line g answer ∷ [])
Tied k a (reason g f) = IsOver k g.client g.game a f None
Tied k a (closing g f o) = IsOver k g.client g.game a f (Some o)
Tied k a (ended g f o) = IsOver k g.client g.game a f (Some o)

-- 2. a step that answers nothing
pub record IsSilent (x : Step) : Type 0 where
  pub login : sends_login x ≡ false
  pub agree : agrees x ≡ false

abbrev pub Passed : Option (List ℕ) → Type 0
Passed None = Unit {0}
Passed (Some line) = IsWithinPlay line × (is_move_line line ≡ false)

abbrev pub NoHash : Option (List ℕ) → Type 0
NoHash None = Unit {0}
NoHash (Some line) = is_hash_line line ≡ false

-- the line does not count in this state
abbrev pub Skipped : Client → Step → Type 0
Skipped idle x = Unit {0}
Skipped logging_in x = hears_ok x ≡ false
Skipped before_summary x = hears_begin x ≡ false
Skipped (summary h) x = from_server x ≡ None
Skipped (agreeing o) x = hears_start x ≡ false
Skipped (playing g) x = Passed (from_server x)
Skipped (sent g a) x = Passed (from_server x)
Skipped (reason g f) x = NoHash (from_server x)
Skipped (closing g f o) x = Unit {0}
Skipped (ended g f o) x = Unit {0}

pub nothing_skipped : (c : Client) (x : Step) → from_server x ≡ None → Skipped c x
nothing_skipped idle x e = tt
nothing_skipped logging_in x e = rw e refl
nothing_skipped before_summary x e = rw e refl
nothing_skipped (summary h) x e = e
nothing_skipped (agreeing o) x e = rw e refl
nothing_skipped (playing g) x e = rw e tt
nothing_skipped (sent g a) x e = rw e tt
nothing_skipped (reason g f) x e = rw e tt
nothing_skipped (closing g f o) x e = tt
nothing_skipped (ended g f o) x e = tt

early_more : (k : Steps) (a : Lines) (x : Step) → Early k a → IsSilent x → Early (k ++ x ∷ []) a
early_more k a x h s = record { none = none_more agrees k x h.none s.agree; nothing = h.nothing }

pass : (k : Steps) (client : Color) (game : Game) (a waiting : Lines) (x : Step) (o : Option (List ℕ)) → from_server x ≡ o → InPlay k client game a waiting → Passed o
    → InPlay (k ++ x ∷ []) client game a waiting
pass k client game a waiting x None e h skipped = record {
  offer = h.offer;
  moved = h.moved;
  taken = h.taken;
  course = course_quiet k x client game h.taken h.offer h.moved h.course e;
  answered = h.answered;
  legal = h.legal;
}
pass k client game a waiting x (Some line) e h skipped = record {
  offer = h.offer;
  moved = h.moved;
  taken = h.taken ++ line ∷ [];
  course = course_skips k x client game h.taken h.offer h.moved line h.course e skipped.0 skipped.1;
  answered = h.answered;
  legal = h.legal;
}

over_more : (k : Steps) (client : Color) (game : Game) (a : Lines) (x : Step) (f new : Finish) (old result : Option GameResult) (h : IsOver k client game a f old)
    → EndReport (h.line ∷ (h.rest ++ extra x)) new result → IsOver (k ++ x ∷ []) client game a new result
over_more k client game a x f new old result h stated = record {
  offer = h.offer;
  moved = h.moved;
  taken = h.taken;
  line = h.line;
  rest = h.rest ++ extra x;
  course = course_over k x client game h.taken h.line h.rest h.offer h.moved h.course;
  stated = stated;
  waiting = h.waiting;
  answered = h.answered;
  one = h.one;
}

-- whatever follows the result
pub over_closed : (k : Steps) (client : Color) (game : Game) (a : Lines) (x : Step) (f : Finish) (o : GameResult) → IsOver k client game a f (Some o)
    → IsOver (k ++ x ∷ []) client game a f (Some o)
over_closed k client game a x f o h = over_more k client game a x f f (Some o) (Some o) h (stated_closed h.line h.rest (extra x) f o h.stated)

-- no line received, or one that does not begin with `#`
over_skips : (k : Steps) (client : Color) (game : Game) (a : Lines) (x : Step) (f : Finish) (o : Option (List ℕ)) → from_server x ≡ o → IsOver k client game a f None → NoHash o
    → IsOver (k ++ x ∷ []) client game a f None
over_skips k client game a x f None e h skipped =
    let none : extra x ≡ [] = rw e refl in
    over_more k client game a x f f None None h (subst (λ ls. EndReport (h.line ∷ ls) f None) (sym (ap (λ ls. h.rest ++ ls) none ∙ append-nil h.rest)) h.stated)
over_skips k client game a x f (Some line) e h skipped =
    over_more k client game a x f f None None h (subst (λ ls. EndReport (h.line ∷ (h.rest ++ ls)) f None) (sym (one_extra x line e)) (stated_more h.line line h.rest f h.stated skipped))

pub tied_silent : (k : Steps) (a : Lines) (c : Client) (x : Step) → Tied k a c → IsSilent x → Skipped c x → Tied (k ++ x ∷ []) a c
tied_silent k a idle x h s n = (early_more k a x h.0 s, none_more sends_login k x h.1 s.login)
tied_silent k a logging_in x h s n = (
  early_more k a x h.0 s,
  has_more sends_login k (x ∷ []) h.1,
  subst (NoneOf hears_ok) (sym (following_more sends_login k (x ∷ []) h.1)) (none_more hears_ok (following sends_login k) x h.2 n),
)
tied_silent k a before_summary x h s n = (
  early_more k a x h.0 s,
  logged_more k x h.1,
  subst (NoneOf hears_begin) (sym (login_more k x h.1)) (none_more hears_begin (after_login k) x h.2 n),
)
tied_silent k a (summary received_so) x h s n =
    let none : extra x ≡ [] = rw n refl in
    let same : CountsAs (server_lines (following hears_begin (after_login k)) ++ extra x) received_so =
    subst (λ ls. CountsAs ls received_so) (sym (ap (λ ls. server_lines (following hears_begin (after_login k)) ++ ls) none ∙ append-nil (server_lines (following hears_begin (after_login k))))) h.1.counts in
    (early_more k a x h.0 s, begun_more k x received_so received_so h.1 same)
tied_silent k a (agreeing o) x h s n =
    (h.0, agreed_more k x o h.1, subst (NoneOf hears_start) (sym (following_more agrees k (x ∷ []) h.1.has)) (none_more hears_start (following agrees k) x h.2 n))
tied_silent k a (playing g) x h s n = pass k g.client g.game a [] x (from_server x) refl h n
tied_silent k a (sent g answer) x h s n = pass k g.client g.game a (answer_line g answer ∷ []) x (from_server x) refl h n
tied_silent k a (reason g f) x h s n = over_skips k g.client g.game a x f (from_server x) refl h n
tied_silent k a (closing g f o) x h s n = over_closed k g.client g.game a x f o h
tied_silent k a (ended g f o) x h s n = over_closed k g.client g.game a x f o h

-- 3. what the rows of play lead to
-- the match and what waits, in Playing and Sent
abbrev pub waits : Match → Option Move → Lines → Type 0
waits g None w = (w ≡ []) ⊎ ((w ≡ codes "%TORYO" ∷ []) ⊎ (w ≡ codes "%KACHI" ∷ []))
waits g (Some m) w = w ≡ move_text g.client m ∷ []

pub record Plays (k : Steps) (a : Lines) (p : Play) : Type 0 where
  pub waiting : Lines
  pub in_play : InPlay k p.game.client p.game.game a waiting
  pub waits_so : waits p.game p.waiting waiting
  -- something was sent only if the client is to move
  pub side : (waiting ≡ [] → ⊥) → (position_now p.game).side ≡ p.game.client

no_play : (p : Play) → None ≡ Some p → ⊥
no_play p e = cc

same_play : (p q : Play) → Some p ≡ Some q → p ≡ q
same_play p q e = cc

not_empty : (x : List ℕ) (xs : Lines) → x ∷ xs ≡ [] → ⊥
not_empty x xs e = cc

pub plays_of : (k : Steps) (a : Lines) (s : State) (c : Client) (p : Play) → Tied k a c → Fits c s.engine → in_play c ≡ Some p → Plays k a p
plays_of k a s idle p h f e = absurd (no_play p e)
plays_of k a s logging_in p h f e = absurd (no_play p e)
plays_of k a s before_summary p h f e = absurd (no_play p e)
plays_of k a s (summary x) p h f e = absurd (no_play p e)
plays_of k a s (agreeing o) p h f e = absurd (no_play p e)
plays_of k a s (playing g) p h f e =
    subst (Plays k a) (same_play _ p e) (record { waiting = []; in_play = h; waits_so = inl refl; side = λ n. absurd (n refl) })
plays_of k a s (sent g (move m)) p h f e =
    subst (Plays k a) (same_play _ p e) (record { waiting = move_text g.client m ∷ []; in_play = h; waits_so = refl; side = λ n. f.1 })
plays_of k a s (sent g toryo) p h f e =
    subst (Plays k a) (same_play _ p e) (record { waiting = codes "%TORYO" ∷ []; in_play = h; waits_so = inr (inl refl); side = λ n. f.1 })
plays_of k a s (sent g kachi) p h f e =
    subst (Plays k a) (same_play _ p e) (record { waiting = codes "%KACHI" ∷ []; in_play = h; waits_so = inr (inr refl); side = λ n. f.1 })
plays_of k a s (reason g x) p h f e = absurd (no_play p e)
plays_of k a s (closing g x o) p h f e = absurd (no_play p e)
plays_of k a s (ended g x o) p h f e = absurd (no_play p e)

-- at most one answer waits
at_most : (g : Match) (o : Option Move) (w : Lines) → waits g o w → AtMostOne w
at_most g None w (inl e) = rw e tt
at_most g None w (inr (inl e)) = rw e tt
at_most g None w (inr (inr e)) = rw e tt
at_most g (Some m) w e = rw e tt

colors : (c d : Color) → ((c ≡ d) × (same_color d c ≡ true)) ⊎ ((c ≡ d → ⊥) × (same_color d c ≡ false))
colors Black Black = inl (refl, refl)
colors Black White = inr (λ e. let f : Black ≡ White = e in cc, refl)
colors White Black = inr (λ e. let f : White ≡ Black = e in cc, refl)
colors White White = inl (refl, refl)

own_more : (client : Color) (moved : List Moved) (m : Moved) → own_texts client (moved ++ m ∷ []) ≡ own_texts client moved ++ own_texts client (m ∷ [])
own_more client moved m = filter_map-append (own_text client) moved (m ∷ [])

-- nothing waits for a move of the other side
none_waits : (p : Play) (w : Lines) (color : Color) → waits p.game p.waiting w → ((w ≡ [] → ⊥) → (position_now p.game).side ≡ p.game.client)
    → color ≡ (position_now p.game).side → (color ≡ p.game.client → ⊥) → w ≡ []
none_waits p [] color h side e other = refl
none_waits p (x ∷ xs) color h side e other = absurd (other (e ∙ side (not_empty x xs)))

-- the answers and the confirmed moves, with the confirmed one after them
own_waits : (g : Match) (o : Option Move) (w : Lines) (m : Move) → waits g o w → o ≡ Some m → w ≡ move_text g.client m ∷ []
own_waits g None w m h e = absurd (let f : None ≡ Some m = e in cc)
own_waits g (Some n) w m h e = let f : n ≡ m = cc in h ∙ ap (λ x. move_text g.client x ∷ []) f

confirmed_texts : (p : Play) (w : Lines) (o : Offer) (color : Color) (m : Timed) → waits p.game p.waiting w
    → ((w ≡ [] → ⊥) → (position_now p.game).side ≡ p.game.client) → color ≡ (position_now p.game).side → IsExpected p color m → p.game.client ≡ o.client
    → w ≡ own_texts o.client ((record { color = color; played = m }) ∷ [])
confirmed_texts p w o color m h side turn own same =
    elim (colors color o.client) [
      | inl mine ↦
          let waits_it = own_waits p.game p.waiting w m.move h (own (mine.0 ∙ sym same)) in
          rw mine.1 (waits_it ∙ ap (λ x. move_text x m.move ∷ []) (same ∙ sym mine.0))
      | inr other ↦ rw other.1 (none_waits p w color h side turn (λ e. other.0 (e ∙ same)))
    ]

pub may_follow : (g : Match) (color : Color) (m : Move) → Answers (match_line g) color m None → MayFollow g.game.start (map move_of g.game.moves) m
may_follow g color m a =
    let all = all-of-none (Kept (match_line g) color m) all_rules a.1 in
    record { legal = legal-of-none (match_line g) color m a.1; not_over = all.1.0 }

pub legal_more : (g : Game) (m : Timed) → IsGame g.start (map move_of g.moves) → MayFollow g.start (map move_of g.moves) m.move
    → IsGame g.start (map move_of (g.moves ++ m ∷ []))
legal_more g m h may = subst (IsGame g.start) (sym (map-append move_of g.moves (m ∷ []))) (played (map move_of g.moves) m.move h may)

-- a confirmed move
pub confirm : (k : Steps) (a : Lines) (p : Play) (x : Step) (line : List ℕ) (color : Color) (m : Timed) → Plays k a p → from_server x ≡ Some line
    → is_move_line line ≡ true → Judged p.game line color m None → IsExpected p color m → IsWithinPlay line
    → InPlay (k ++ x ∷ []) p.game.client (game_with p.game.game (m ∷ [])) a []
confirm k a p x line color m h e sign j own on =
    let i = h.in_play in
    let n : Moved = record { color = color; played = m } in
    let texts = confirmed_texts p h.waiting i.offer color m h.waits_so h.side (right_side p.game line color m j) own i.course.client_is in
    record {
      offer = i.offer;
      moved = i.moved ++ n ∷ [];
      taken = i.taken ++ line ∷ [];
      course = course_moves k x p.game.client p.game.game i.taken i.offer i.moved line n i.course e on sign j.stated;
      answered =
          i.answered ∙ (ap (λ ws. own_texts i.offer.client i.moved ++ ws) texts
          ∙ (sym (own_more i.offer.client i.moved n) ∙ sym (append-nil (own_texts i.offer.client (i.moved ++ n ∷ [])))));
      legal = legal_more p.game.game m i.legal (may_follow p.game color m.move j.answers);
    }

-- a line that ends play
pub finish : (k : Steps) (a : Lines) (p : Play) (x : Step) (line : List ℕ) (f : Finish) (result : Option GameResult) → Plays k a p → from_server x ≡ Some line → EndsPlay (line ∷ [])
    → EndReport (line ∷ []) f result → IsOver (k ++ x ∷ []) p.game.client p.game.game a f result
finish k a p x line f result h e ends stated =
    let i = h.in_play in
    record {
      offer = i.offer;
      moved = i.moved;
      taken = i.taken;
      line = line;
      rest = [];
      course = course_ends k x p.game.client p.game.game i.taken i.offer i.moved line i.course e ends;
      stated = stated;
      waiting = h.waiting;
      answered = i.answered;
      one = at_most p.game p.waiting h.waiting h.waits_so;
    }

no_result : (x : Match × Finish) → None ≡ Some x → ⊥
no_result x e = cc

same_result : (x y : Match × Finish) → Some x ≡ Some y → x ≡ y
same_result x y e = cc

over_hash : (k : Steps) (client : Color) (game : Game) (a : Lines) (x : Step) (f : Finish) (line : List ℕ) (o : Option GameResult) → IsOver k client game a f None
    → from_server x ≡ Some line → is_hash_line line ≡ true → outcome_of line ≡ o → IsOver (k ++ x ∷ []) client game a (after_hash f line o) o
over_hash k client game a x f line o h e sign is =
    over_more k client game a x f (after_hash f line o) None o h
    (subst (λ ls. EndReport (h.line ∷ (h.rest ++ ls)) (after_hash f line o) o) (sym (one_extra x line e)) (stated_hash_more h.line line h.rest f o h.stated sign is))

first_hash : (k : Steps) (a : Lines) (p : Play) (x : Step) (line : List ℕ) (o : Option GameResult) → Plays k a p → from_server x ≡ Some line → is_hash_line line ≡ true
    → outcome_of line ≡ o → IsOver (k ++ x ∷ []) p.game.client p.game.game a (after_hash nothing_stated line o) o
first_hash k a p x line o h e sign is = finish k a p x line (after_hash nothing_stated line o) o h e (inr sign) (stated_hash line o sign is)

abbrev OverSo : Steps → Lines → List ℕ → Option GameResult → Match × Finish → Type 0
OverSo k a line o y = IsOver k y.0.client y.0.game a (after_hash y.1 line o) o

-- a line that begins with `#` in Playing, Sent, Reason
pub hash : (k : Steps) (a : Lines) (s : State) (c : Client) (y : Match × Finish) (x : Step) (line : List ℕ) (o : Option GameResult) → Tied k a c → Fits c s.engine
    → before_result c ≡ Some y → from_server x ≡ Some line → is_hash_line line ≡ true → outcome_of line ≡ o → OverSo (k ++ x ∷ []) a line o y
hash k a s idle y x line o h f e r sign is = absurd (no_result y e)
hash k a s logging_in y x line o h f e r sign is = absurd (no_result y e)
hash k a s before_summary y x line o h f e r sign is = absurd (no_result y e)
hash k a s (summary z) y x line o h f e r sign is = absurd (no_result y e)
hash k a s (agreeing z) y x line o h f e r sign is = absurd (no_result y e)
hash k a s (playing g) y x line o h f e r sign is =
    subst (OverSo (k ++ x ∷ []) a line o) (same_result _ y e)
    (first_hash k a (record { game = g; waiting = None }) x line o (plays_of k a s (playing g) _ h f refl) r sign is)
hash k a s (sent g (move m)) y x line o h f e r sign is =
    subst (OverSo (k ++ x ∷ []) a line o) (same_result _ y e)
    (first_hash k a (record { game = g; waiting = Some m }) x line o (plays_of k a s (sent g (move m)) _ h f refl) r sign is)
hash k a s (sent g toryo) y x line o h f e r sign is =
    subst (OverSo (k ++ x ∷ []) a line o) (same_result _ y e)
    (first_hash k a (record { game = g; waiting = None }) x line o (plays_of k a s (sent g toryo) _ h f refl) r sign is)
hash k a s (sent g kachi) y x line o h f e r sign is =
    subst (OverSo (k ++ x ∷ []) a line o) (same_result _ y e)
    (first_hash k a (record { game = g; waiting = None }) x line o (plays_of k a s (sent g kachi) _ h f refl) r sign is)
hash k a s (reason g z) y x line o h f e r sign is =
    subst (OverSo (k ++ x ∷ []) a line o) (same_result _ y e) (over_hash k g.client g.game a x z line o h r sign is)
hash k a s (closing g z q) y x line o h f e r sign is = absurd (no_result y e)
hash k a s (ended g z q) y x line o h f e r sign is = absurd (no_result y e)
