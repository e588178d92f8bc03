-- Items say at most one game, and bytes contain at most one.
use Rattle.std.proofs.Common.{◌≡◌, ◌⊎◌, ℕ, suc, ◌<◌, Bool, true, false, List, [], ◌∷◌, ◌++◌, length, get_or, Option, Some, None, refl, sym, ap, ◌∙◌, append_assoc, arith, inl, inr}
use Rattle.std.specs.Prelude.{nat_lt}
use Rattle.std.specs.List.{AllZip, filter_map}
use Rattle.std.specs.Option.{option_to_list}
use Rattle.std.proofs.lemmas.Bool.{cases_lt, lt-ltb, le-ltb}
use Rattle.std.proofs.lemmas.List.Elements.{filter_map-append}
use Rattle.shogi_board.specs.declared.color.Color.{Color}
use Rattle.shogi_board.specs.declared.kind.Piece.{Piece}
use Rattle.shogi_board.specs.Layout.{Layout}
use Rattle.shogi_board.specs.Pieces.{opponent}
use Rattle.shogi_board.specs.Placed.{Placed}
use Rattle.shogi_board.specs.Setup.{position_of}
use Rattle.shogi_board.specs.declared.moves.Move.{Move}
use Rattle.csa_text.specs.declared.ending.Ending.{Ending}
use Rattle.csa_cutting.specs.Cut.{TextUnit, statement_bytes}
use Rattle.csa_text.specs.Saying.{Saying, version, name, header, even, rank, pieces, turn, walked, time, ending}
use Rattle.csa_text.proofs.Moments.{moment_once}
use Rattle.csa_cutting.proofs.Once.{statements_once}
use Rattle.csa_text.proofs.Sayings.{same_saying}
use Rattle.record_game.specs.Game.{Game, Timed, Ended, Entry, HeaderText, moment, plain}
use Rattle.record_game.specs.Limits.{is_below, Rising}
use Rattle.record_game.specs.Items.{headers, positions, side_given, sides, body}
use Rattle.shogi_board.specs.Placing.{Placing}
use Rattle.record_game.specs.Placings.{placings}
use Rattle.record_game.specs.Says.{Says, IsValue, AreEntries, time_items, move_items, ending_items, played_items}
use Rattle.record_game.specs.Tells.{Tells, IsSpelt}
use Rattle.record_game.specs.Union.{IsUnion, GiveStart, first_board, rest_given, with_rest_given}

-- starts
same_option : {X : Type 0} (a b : Option X) → option_to_list a ≡ option_to_list b → a ≡ b
same_option None None e = refl
same_option None (Some y) e = cc
same_option (Some x) None e = cc
same_option (Some x) (Some y) e = let same : x ≡ y = cc in ap Some same

cells_same : (a b : List (Option Piece)) → length a ≡ length b → ((n : ℕ) → n < length a → get_or a n None ≡ get_or b n None) → a ≡ b
cells_same [] [] h e = refl
cells_same [] (d ∷ ds) h e = absurd (omega (arith, h))
cells_same (c ∷ cs) [] h e = absurd (omega (arith, h))
cells_same (c ∷ cs) (d ∷ ds) h e =
    let first : c ≡ d = e 0 (omega arith) in
    ap (λ x. x ∷ cs) first ∙ ap (λ xs. d ∷ xs) (cells_same cs ds (omega (arith, h)) (λ n less. e (suc n) (omega (arith, less))))

abbrev layout : List (Option Piece) → List ℕ → List ℕ → Bool → Layout
layout x y z b = record { material = record { board = x; black = y; white = z }; rest_given = b }

layouts_same : (s t : Layout) → s.material.board ≡ t.material.board → s.material.black ≡ t.material.black → s.material.white ≡ t.material.white → s.rest_given ≡ t.rest_given → s ≡ t
layouts_same s t p q r u =
    ap (λ x. layout x s.material.black s.material.white s.rest_given) p ∙ (ap (λ x. layout t.material.board x s.material.white s.rest_given) q
    ∙ (ap (λ x. layout t.material.board t.material.black x s.rest_given) r ∙ ap (λ x. layout t.material.board t.material.black t.material.white x) u))

pub union_once : (first : List (Option Piece)) (ps : List Placing) (s t : Layout) → IsUnion first ps s → IsUnion first ps t → s ≡ t
union_once first ps s t p q =
    layouts_same s t
    (cells_same s.material.board t.material.board (p.squares ∙ sym q.squares)
    (λ n less. let low : n < 81 = omega (arith, less, p.squares) in same_option (get_or s.material.board n None) (get_or t.material.board n None) (sym (p.cells n low) ∙ q.cells n low)))
    (p.black ∙ sym q.black) (p.white ∙ sym q.white) (p.no_rest ∙ sym q.no_rest)

pub start_once : (ss : List Saying) (p q : Placed) → p.side ≡ q.side → GiveStart ss p → GiveStart ss q → p ≡ q
start_once ss p q side a b =
    let same = union_once (first_board ss) (placings ss) a.layout b.layout a.union b.union in
    let given = filter_map rest_given (placings ss) in
    a.start_is ∙ (ap (λ s. position_of (with_rest_given given s) p.side) same ∙ (ap (λ c. position_of (with_rest_given given b.layout) c) side ∙ sym b.start_is))

-- headers
never_below : (n : ℕ) → nat_lt n n ≡ false
never_below n = le-ltb n n (omega arith)

not_itself : (a : List ℕ) → is_below a a ≡ false
not_itself [] = refl
not_itself (b ∷ bs) = rw (never_below b) (not_itself bs)

pub turned : (a b : List ℕ) → is_below a b ≡ true → is_below b a ≡ true → ⊥
turned [] [] h k = cc
turned [] (c ∷ cs) h k = cc
turned (b ∷ bs) [] h k = cc
turned (b ∷ bs) (c ∷ cs) h k =
    elim (cases_lt b c) [
      | inl under ↦
          let one : nat_lt b c ≡ true = lt-ltb b c under in
          let other : nat_lt c b ≡ false = le-ltb c b (omega (arith, under)) in
          let never : false ≡ true = rw (other, one) at k in
          cc
      | inr over ↦ elim (cases_lt c b) [
        | inl above ↦
            let one : nat_lt c b ≡ true = lt-ltb c b above in
            let other : nat_lt b c ≡ false = le-ltb b c (omega (arith, above)) in
            let never : false ≡ true = rw (other, one) at h in
            cc
        | inr level ↦
            let p : nat_lt b c ≡ false = le-ltb b c over in
            let q : nat_lt c b ≡ false = le-ltb c b level in
            let h2 : is_below bs cs ≡ true = rw (p, q) at h in
            let k2 : is_below cs bs ≡ true = rw (q, p) at k in
            turned bs cs h2 k2
      ]
    ]

below_cases : (b c : ℕ) (bs cs : List ℕ) → is_below (b ∷ bs) (c ∷ cs) ≡ true → (b < c) ⊎ ((b ≡ c) × (is_below bs cs ≡ true))
below_cases b c bs cs h =
    elim (cases_lt b c) [
      | inl under ↦ inl under
      | inr over ↦ elim (cases_lt c b) [
        | inl above ↦
            let one : nat_lt c b ≡ true = lt-ltb c b above in
            let other : nat_lt b c ≡ false = le-ltb b c over in
            let never : false ≡ true = rw (other, one) at h in
            cc
        | inr level ↦
            let p : nat_lt b c ≡ false = le-ltb b c over in
            let q : nat_lt c b ≡ false = le-ltb c b level in
            let more : is_below bs cs ≡ true = rw (p, q) at h in
            inr (omega (arith, over, level), more)
      ]
    ]

pub below_first : (b c : ℕ) (bs cs : List ℕ) → b < c → is_below (b ∷ bs) (c ∷ cs) ≡ true
below_first b c bs cs h = rw (lt-ltb b c h) refl

pub below_next : (b c : ℕ) (bs cs : List ℕ) → b ≡ c → is_below bs cs ≡ true → is_below (b ∷ bs) (c ∷ cs) ≡ true
below_next b c bs cs e h = rw (e, never_below c) h

below_through : (a b c : List ℕ) → is_below a b ≡ true → is_below b c ≡ true → is_below a c ≡ true
below_through [] [] c h k = cc
below_through [] (y ∷ ys) [] h k = cc
below_through [] (y ∷ ys) (z ∷ zs) h k = refl
below_through (x ∷ xs) [] c h k = cc
below_through (x ∷ xs) (y ∷ ys) [] h k = cc
below_through (x ∷ xs) (y ∷ ys) (z ∷ zs) h k =
    elim (below_cases x y xs ys h) [
      | inl low ↦ elim (below_cases y z ys zs k) [
        | inl high ↦ below_first x z xs zs (omega (arith, low, high))
        | inr level ↦ below_first x z xs zs (omega (arith, low, level.0))
      ]
      | inr flat ↦ elim (below_cases y z ys zs k) [
        | inl high ↦ below_first x z xs zs (omega (arith, flat.0, high))
        | inr level ↦ below_next x z xs zs (flat.0 ∙ level.0) (below_through xs ys zs flat.1 level.1)
      ]
    ]

-- the first of a rising list comes before each later one
rising_tail : (e : Entry) (es : List Entry) → Rising (e ∷ es) → Rising es
rising_tail e [] h = tt
rising_tail e (f ∷ es) h = h.1

pub before_later : (x : Entry) (front : List Entry) (e : Entry) (following : List Entry) → Rising (x ∷ (front ++ e ∷ following)) → is_below x.key e.key ≡ true
before_later x [] e following h = h.0
before_later x (y ∷ front) e following h = below_through x.key y.key e.key h.0 (before_later y front e following h.1)

-- without one entry it still rises
pub rising_without : (front : List Entry) (e : Entry) (following : List Entry) → Rising (front ++ e ∷ following) → Rising (front ++ following)
rising_without [] e following h = rising_tail e following h
rising_without (x ∷ []) e [] h = tt
rising_without (x ∷ []) e (y ∷ following) h = (below_through x.key e.key y.key h.0 h.1.0, h.1.1)
rising_without (x ∷ y ∷ front) e following h = (h.0, rising_without (y ∷ front) e following h.1)

entry_place : (f1 b1 f2 b2 : List Entry) (e : Entry) → f1 ++ b1 ≡ f2 ++ b2 → Rising (f1 ++ e ∷ b1) → Rising (f2 ++ e ∷ b2) → f1 ++ e ∷ b1 ≡ f2 ++ e ∷ b2
entry_place [] b1 [] b2 e same p q = ap (λ es. e ∷ es) same
entry_place [] b1 (x ∷ f2) b2 e same p q =
    let first : Rising (e ∷ x ∷ (f2 ++ b2)) = rw same at p in
    absurd (turned e.key x.key first.0 (before_later x f2 e b2 q))
entry_place (x ∷ f1) b1 [] b2 e same p q =
    let first : Rising (e ∷ x ∷ (f1 ++ b1)) = rw (← same) at q in
    absurd (turned e.key x.key first.0 (before_later x f1 e b1 p))
entry_place (x ∷ f1) b1 (y ∷ f2) b2 e same p q =
    let heads : x ≡ y = cc in
    let rests : f1 ++ b1 ≡ f2 ++ b2 = cc in
    ap (λ z. z ∷ (f1 ++ e ∷ b1)) heads ∙ ap (λ es. y ∷ es) (entry_place f1 b1 f2 b2 e rests (rising_tail x (f1 ++ e ∷ b1) p) (rising_tail y (f2 ++ e ∷ b2) q))

value_once : (key text : List ℕ) (a b : HeaderText) → IsValue key text a → IsValue key text b → a ≡ b
value_once key text (moment m) (moment n) p q = ap moment (moment_once text m n p.1 q.1)
value_once key text (moment m) (plain t) p q = absurd (q.1 p.0 m p.1)
value_once key text (plain t) (moment n) p q = absurd (p.1 q.0 n q.1)
value_once key text (plain s) (plain t) p q = ap plain (p.0 ∙ sym q.0)

entry_same : (e f : Entry) → e.key ≡ f.key → e.text ≡ f.text → e ≡ f
entry_same e f p q =
    let first : e ≡ record { key = f.key; text = e.text } = ap (λ (k : List ℕ). record e { key = k }) p in
    first ∙ ap (λ (t : HeaderText). record f { text = t }) q

pub entries_once : (hs : List (List ℕ × List ℕ)) (es fs : List Entry) → AreEntries hs es → AreEntries hs fs → Rising es → Rising fs → es ≡ fs
entries_once [] es fs p q r s = p ∙ sym q
entries_once (h ∷ hs) es fs (f1, e1, b1, p, k1, v1, o1) (f2, e2, b2, q, k2, v2, o2) r s =
    let same : e1 ≡ e2 = entry_same e1 e2 (k1 ∙ sym k2) (value_once h.0 h.1 e1.text e2.text v1 v2) in
    let r1 : Rising (f1 ++ e1 ∷ b1) = rw p at r in
    let s1 : Rising (f2 ++ e2 ∷ b2) = rw q at s in
    let s2 : Rising (f2 ++ e1 ∷ b2) = rw (← same) at s1 in
    let others = entries_once hs (f1 ++ b1) (f2 ++ b2) o1 o2 (rising_without f1 e1 b1 r1) (rising_without f2 e2 b2 s1) in
    p ∙ (entry_place f1 b1 f2 b2 e1 others r1 s2 ∙ (ap (λ e. f2 ++ e ∷ b2) same ∙ sym q))

-- moves and ending
endings_once : (e f : Option Ended) → ending_items e ≡ ending_items f → e ≡ f
endings_once None None h = refl
endings_once None (Some f) h = cc
endings_once (Some e) None h = cc
endings_once (Some e) (Some f) h =
    let first : e.ending ≡ f.ending = cc in
    let rest : time_items e.time ≡ time_items f.time = cc in
    ap Some (ended_same e f first (time_once e.time f.time rest))
  where
    time_once : (a b : Option ℕ) → time_items a ≡ time_items b → a ≡ b
    time_once None None h = refl
    time_once None (Some b) h = cc
    time_once (Some a) None h = cc
    time_once (Some a) (Some b) h = let same : a ≡ b = cc in ap Some same

    ended_same : (e f : Ended) → e.ending ≡ f.ending → e.time ≡ f.time → e ≡ f
    ended_same e f p q =
        let first : e ≡ record { ending = f.ending; time = e.time } = ap (λ (x : Ending). record e { ending = x }) p in
        first ∙ ap (λ (t : Option ℕ). record f { time = t }) q

no_time : (c : Color) (ts : List Timed) (e : Option Ended) (n : ℕ) (ss : List Saying) → move_items c ts ++ ending_items e ≡ time n ∷ ss → ⊥
no_time c [] None n ss h = cc
no_time c [] (Some e) n ss h = let head : ending e.ending ≡ time n = cc in cc
no_time c (t ∷ ts) e n ss h = let head : walked c t.move ≡ time n = cc in cc

split_time : (c : Color) (a b : Option ℕ) (ts us : List Timed) (e f : Option Ended) → (time_items a ++ move_items c ts) ++ ending_items e ≡ (time_items b ++ move_items c us) ++ ending_items f → (a ≡ b) × (move_items c ts ++ ending_items e ≡ move_items c us ++ ending_items f)
split_time c None None ts us e f h = (refl, h)
split_time c None (Some b) ts us e f h = absurd (no_time c ts e b (move_items c us ++ ending_items f) h)
split_time c (Some a) None ts us e f h = absurd (no_time c us f a (move_items c ts ++ ending_items e) (sym h))
split_time c (Some a) (Some b) ts us e f h =
    let same : a ≡ b = cc in
    let rest : move_items c ts ++ ending_items e ≡ move_items c us ++ ending_items f = cc in
    (ap Some same, rest)

timed_same : (t u : Timed) → t.move ≡ u.move → t.time ≡ u.time → t ≡ u
timed_same t u p q =
    let first : t ≡ record { move = u.move; time = t.time } = ap (λ (m : Move). record t { move = m }) p in
    first ∙ ap (λ (x : Option ℕ). record u { time = x }) q

no_move : (c : Color) (e : Option Ended) (m : Move) (ss : List Saying) → ending_items e ≡ walked c m ∷ ss → ⊥
no_move c None m ss h = cc
no_move c (Some e) m ss h = let head : ending e.ending ≡ walked c m = cc in cc

pub moves_once : (c : Color) (ts us : List Timed) (e f : Option Ended) → move_items c ts ++ ending_items e ≡ move_items c us ++ ending_items f → (ts ≡ us) × (e ≡ f)
moves_once c [] [] e f h = (refl, endings_once e f h)
moves_once c [] (u ∷ us) e f h = absurd (no_move c e u.move ((time_items u.time ++ move_items (opponent c) us) ++ ending_items f) h)
moves_once c (t ∷ ts) [] e f h = absurd (no_move c f t.move ((time_items t.time ++ move_items (opponent c) ts) ++ ending_items e) (sym h))
moves_once c (t ∷ ts) (u ∷ us) e f h =
    let head : walked c t.move ≡ walked c u.move = cc in
    let one : t.move ≡ u.move = cc in
    let rest : (time_items t.time ++ move_items (opponent c) ts) ++ ending_items e ≡ (time_items u.time ++ move_items (opponent c) us) ++ ending_items f = cc in
    let parts = split_time (opponent c) t.time u.time ts us e f rest in
    let more = moves_once (opponent c) ts us e f parts.1 in
    (ap (λ x. x ∷ ts) (timed_same t u one parts.0) ∙ ap (λ xs. u ∷ xs) more.0, more.1)

-- the one side
side_body : (s : Saying) (ss : List Saying) → sides (body (s ∷ ss)) ≡ sides (s ∷ []) ++ sides (body ss)
side_body version ss = refl
side_body (name c t) ss = refl
side_body (header k t) ss = refl
side_body (even ps) ss = refl
side_body (rank n cs) ss = refl
side_body (pieces c ps) ss = refl
side_body (turn c) ss = refl
side_body (walked c m) ss = refl
side_body (time t) ss = refl
side_body (ending e) ss = refl

pub sides_body : (ss : List Saying) → sides (body ss) ≡ sides ss
sides_body [] = refl
sides_body (s ∷ ss) =
    side_body s ss ∙ (ap (λ cs. sides (s ∷ []) ++ cs) (sides_body ss) ∙ sym (filter_map-append side_given (s ∷ []) ss))

side_positions : (s : Saying) (ss : List Saying) → sides (positions (s ∷ ss)) ≡ sides (positions ss)
side_positions version ss = refl
side_positions (name c t) ss = refl
side_positions (header k t) ss = refl
side_positions (even ps) ss = refl
side_positions (rank n cs) ss = refl
side_positions (pieces c ps) ss = refl
side_positions (turn c) ss = refl
side_positions (walked c m) ss = refl
side_positions (time t) ss = refl
side_positions (ending e) ss = refl

pub sides_positions : (ss : List Saying) → sides (positions ss) ≡ []
sides_positions [] = refl
sides_positions (s ∷ ss) = side_positions s ss ∙ sides_positions ss

sides_time : (t : Option ℕ) (ss : List Saying) → sides (time_items t ++ ss) ≡ sides ss
sides_time None ss = refl
sides_time (Some t) ss = refl

pub sides_moves : (c : Color) (ts : List Timed) (ss : List Saying) → sides (move_items c ts ++ ss) ≡ sides ss
sides_moves c [] ss = refl
sides_moves c (t ∷ ts) ss =
    ap sides (append_assoc (time_items t.time) (move_items (opponent c) ts) ss) ∙ (sides_time t.time (move_items (opponent c) ts ++ ss) ∙ sides_moves (opponent c) ts ss)

pub sides_ending : (e : Option Ended) → sides (ending_items e) ≡ []
sides_ending None = refl
sides_ending (Some e) = timed e.time
  where
    timed : (t : Option ℕ) → sides (time_items t) ≡ []
    timed None = refl
    timed (Some t) = refl

pub one_side : (ss : List Saying) (g : Game) → Says ss g → sides ss ≡ g.start.side ∷ []
one_side ss g says =
    sym (sides_body ss) ∙ (ap sides says.in_order ∙ (filter_map-append side_given (positions ss) (turn g.start.side ∷ played_items g)
    ∙ (ap (λ cs. cs ++ (g.start.side ∷ sides (played_items g))) (sides_positions ss)
    ∙ ap (λ cs. g.start.side ∷ cs) (sides_moves g.start.side g.moves (ending_items g.ending) ∙ sides_ending g.ending))))

same_after : (xs ys zs : List Saying) → xs ++ ys ≡ xs ++ zs → ys ≡ zs
same_after [] ys zs h = h
same_after (x ∷ xs) ys zs h = let rest : xs ++ ys ≡ xs ++ zs = cc in same_after xs ys zs rest

abbrev game : Option (List ℕ) → Option (List ℕ) → List Entry → Placed → List Timed → Option Ended → Game
game a b c d e f = record { black = a; white = b; headers = c; start = d; moves = e; ending = f }

games_same : (g h : Game) → g.black ≡ h.black → g.white ≡ h.white → g.headers ≡ h.headers → g.start ≡ h.start → g.moves ≡ h.moves → g.ending ≡ h.ending → g ≡ h
games_same g h p q r s t u =
    ap (λ x. game x g.white g.headers g.start g.moves g.ending) p ∙ (ap (λ x. game h.black x g.headers g.start g.moves g.ending) q
    ∙ (ap (λ x. game h.black h.white x g.start g.moves g.ending) r ∙ (ap (λ x. game h.black h.white h.headers x g.moves g.ending) s
    ∙ (ap (λ x. game h.black h.white h.headers h.start x g.ending) t ∙ ap (λ x. game h.black h.white h.headers h.start h.moves x) u))))

pub says_once : (ss : List Saying) (g h : Game) → Says ss g → Says ss h → g ≡ h
says_once ss g h p q =
    let sides_same : g.start.side ∷ [] ≡ h.start.side ∷ [] = sym (one_side ss g p) ∙ one_side ss h q in
    let side : g.start.side ≡ h.start.side = cc in
    let following = same_after (positions ss) (turn g.start.side ∷ played_items g) (turn h.start.side ∷ played_items h) (sym p.in_order ∙ q.in_order) in
    let played : played_items g ≡ played_items h = cc in
    let all : move_items g.start.side g.moves ++ ending_items g.ending ≡ move_items g.start.side h.moves ++ ending_items h.ending
    = played ∙ ap (λ c. move_items c h.moves ++ ending_items h.ending) (sym side) in
    let parts = moves_once g.start.side g.moves h.moves g.ending h.ending all in
    games_same g h (same_option g.black h.black (sym p.black ∙ q.black)) (same_option g.white h.white (sym p.white ∙ q.white))
    (entries_once (headers ss) g.headers h.headers p.headers q.headers p.game.rising q.game.rising)
    (start_once (positions ss) g.start h.start side p.start q.start) parts.0 parts.1

pub same_items : (us : List TextUnit) (ss ts : List Saying) → AllZip IsSpelt us ss → AllZip IsSpelt us ts → ss ≡ ts
same_items [] [] [] p q = refl
same_items [] [] (t ∷ ts) p q = absurd q
same_items [] (s ∷ ss) ts p q = absurd p
same_items (u ∷ us) [] ts p q = absurd p
same_items (u ∷ us) (s ∷ ss) [] p q = absurd q
same_items (u ∷ us) (s ∷ ss) (t ∷ ts) p q =
    let head : s ≡ t = same_saying (statement_bytes u.bytes) s t p.0.1 q.0.1 in
    ap (λ x. x ∷ ss) head ∙ ap (λ xs. t ∷ xs) (same_items us ss ts p.1 q.1)

pub tells_once : (source : List ℕ) (g h : Game) → Tells source g → Tells source h → g ≡ h
tells_once source g h p q =
    let statements : p.statements ≡ q.statements = statements_once _ _ p.statements q.statements p.cut q.cut in
    let spelt : AllZip IsSpelt p.statements q.sayings = rw statements q.spelt in
    let items : p.sayings ≡ q.sayings = same_items p.statements p.sayings q.sayings p.spelt spelt in
    says_once p.sayings g h p.says (rw items q.says)
