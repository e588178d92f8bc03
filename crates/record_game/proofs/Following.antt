-- If items say a game, each of them is taken after those before it.
use Rattle.std.proofs.Common.{◌≡◌, ◌⊎◌, ℕ, ◌<◌, ◌==◌, Bool, true, false, not, List, [], ◌∷◌, ◌++◌, length, map, Option, Some, None, Result, Ok, Err, refl, sym, ap, ◌∙◌, append_assoc, subst, arith, inl, inr}
use Rattle.std.specs.Prelude.{drop, filter, is_some, nat_le, nat_eq}
use Rattle.std.specs.Cmp.Lexicographic.{pointwise, bytes_decides}
use Rattle.std.specs.List.{AllByRecursion, filter_map}
use Rattle.std.specs.Option.{option_to_list}
use Rattle.std.proofs.lemmas.Bool.{cases_Bool, lt-leb, false≢true}
use Rattle.std.proofs.lemmas.Grind.{flat_map-append}
use Rattle.std.proofs.lemmas.List.{append-nil, length-append, length-map}
use Rattle.std.proofs.lemmas.List.Elements.{filter-append, filter_map-append}
use Rattle.shogi_board.specs.declared.color.Color.{Color}
use Rattle.shogi_board.specs.declared.color.Color.TheVariants.{Black, White}
use Rattle.shogi_board.specs.declared.kind.Piece.{Piece}
use Rattle.shogi_board.specs.declared.setup.SetupFault.{SetupFault}
use Rattle.shogi_board.specs.Layout.{Layout}
use Rattle.shogi_board.specs.Pieces.{opponent}
use Rattle.shogi_board.specs.Placed.{Placed}
use Rattle.shogi_board.specs.Reach.{InCheck}
use Rattle.shogi_board.specs.Setup.{position_of}
use Rattle.shogi_board.specs.Totals.{IsWithinTotals}
use Rattle.shogi_board.specs.declared.moves.Move.{Move}
use Rattle.shogi_board.specs.After.{after}
use Rattle.shogi_rules.specs.Play as plays
use Rattle.shogi_rules.specs.Positions.{position_after, IsGame, begun, played, MayFollow}
use Rattle.shogi_rules.specs.Rules as rules
use Rattle.shogi_board.specs.Rules.{all_rules, IsFirstBroken}
use Rattle.shogi_board.specs.declared.rule.Rule.{Rule}
use Rattle.shogi_board.proofs.Broken.{AllKept, broken-not-kept}
use Rattle.shogi_rules.proofs.Decided.{decide-kept, some-broken}
use Rattle.csa_text.specs.declared.ending.Ending.{Ending}
use Rattle.csa_text.specs.declared.pair.Pair.{Pair}
use Rattle.csa_text.specs.Saying.{Saying, version, name, header, even, rank, pieces, turn, walked, time, ending}
use Rattle.record_game.specs.Course.{Course, course_line, awaits_after_it}
use Rattle.record_game.specs.Game.{Game, Timed, Ended, Entry, move_of}
use Rattle.record_game.specs.Items.{is_version, name_given, names, header_given, headers, is_even, rank_given, ranks, is_position, positions, sides, moves, is_body, body, AtMostOne}
use Rattle.record_game.specs.Keeping.{Stage, laying, playing, Kept, HasKept, KeepsStage}
use Rattle.record_game.specs.Laying.{Laid}
use Rattle.record_game.specs.Limits.{is_below, Rising}
use Rattle.record_game.specs.Order.{stands, endings, order_fault, last_may_have_time}
use Rattle.shogi_board.specs.Placing.{place_all, board_alone}
use Rattle.record_game.specs.LaidOut.{laid_out}
use Rattle.record_game.specs.Placings.{placings_of, placings}
use Rattle.record_game.specs.Refused.{AnswersItem, AnswersAfter, AnswersInOrder, Finishes, IsLineOf, start_why}
use Rattle.record_game.specs.Says.{Says, AreEntries, time_items, move_items, ending_items, played_items}
use Rattle.record_game.specs.Titles.{under}
use Rattle.record_game.specs.Union.{first_board, rest_given, with_rest_given}
use Rattle.record_game.proofs.Answering.{is_laying, lays_now}
use Rattle.record_game.proofs.Headers.{as_many, same_keys}
use Rattle.record_game.proofs.LaidOut.{IsWritten}
use Rattle.record_game.proofs.LayingPlaced.{placed_fault}
use Rattle.record_game.proofs.OtherKeys.{not_itself, skipped, none_later}
use Rattle.record_game.proofs.Placeable.{union_laid_out}
use Rattle.record_game.proofs.Played.{playing_body, IsPlaying}
use Rattle.record_game.proofs.SaysOnce.{before_later, rising_without}
use Rattle.record_game.proofs.Within.{Within, before_rest}

-- lists
not_empty : {X : Type 0} (xs ys : List X) (y : X) → xs ++ y ∷ ys ≡ [] → ⊥
not_empty [] ys y h = cc
not_empty (x ∷ xs) ys y h = cc

only_last : {X : Type 0} (xs ys : List X) (y : X) → AtMostOne (xs ++ y ∷ ys) → xs ≡ []
only_last [] ys y h = refl
only_last (x ∷ []) ys y h = absurd h
only_last (x ∷ z ∷ xs) ys y h = absurd h

at_most : {X : Type 0} (o : Option X) → AtMostOne (option_to_list o)
at_most None = tt
at_most (Some x) = tt

front_empty : {X : Type 0} (xs ys : List X) → xs ++ ys ≡ [] → xs ≡ []
front_empty [] ys h = refl
front_empty (x ∷ xs) ys h = cc

without_front : {X : Type 0} (xs ys zs : List X) → xs ++ ys ≡ xs ++ zs → ys ≡ zs
without_front [] ys zs h = h
without_front (x ∷ xs) ys zs h = let rest_same : xs ++ ys ≡ xs ++ zs = cc in without_front xs ys zs rest_same

-- only the first is one of those
first_only : (p : Saying → Bool) (xs ys : List Saying) (s : Saying) → p s ≡ true → filter p (drop 1 (xs ++ s ∷ ys)) ≡ [] → stands xs ≡ false
first_only p [] ys s is h = refl
first_only p (x ∷ xs) ys s is h =
    let hit : filter p (s ∷ ys) ≡ s ∷ filter p ys = rw is refl in
    absurd (not_empty (filter p xs) (filter p ys) s (ap (λ zs. filter p xs ++ zs) (sym hit) ∙ (sym (filter-append p xs (s ∷ ys)) ∙ h)))

in_order : (before : List Saying) (s : Saying) → order_fault before s ≡ None → AnswersInOrder before s None → AnswersItem before s None
in_order before s none h = subst (λ f. AnswersAfter f before s None) (sym none) h

-- versions
version_follows : (fs bs : List Saying) (g : Game) → Says (fs ++ version ∷ bs) g → AnswersItem fs version None
version_follows fs bs g says =
    let first = first_only is_version fs bs version refl says.version_first in
    in_order fs version (rw first refl) refl

-- names
name_first : (fs bs : List Saying) (color : Color) (b : ℕ) (text : List ℕ) (o : Option (List ℕ)) → names color (fs ++ name color (b ∷ text) ∷ bs) ≡ option_to_list o → names color fs ≡ []
name_first fs bs Black b text o h =
    only_last (names Black fs) (names Black bs) (b ∷ text) (subst (λ (ns : List (List ℕ)). AtMostOne ns) (sym h ∙ filter_map-append (name_given Black) fs (name Black (b ∷ text) ∷ bs)) (at_most o))
name_first fs bs White b text o h =
    only_last (names White fs) (names White bs) (b ∷ text) (subst (λ (ns : List (List ℕ)). AtMostOne ns) (sym h ∙ filter_map-append (name_given White) fs (name White (b ∷ text) ∷ bs)) (at_most o))

name_follows : (fs bs : List Saying) (color : Color) (text : List ℕ) (g : Game) → Says (fs ++ name color text ∷ bs) g → AnswersItem fs (name color text) None
name_follows fs bs color [] g says = refl
name_follows fs bs Black (b ∷ text) g says = let none = name_first fs bs Black b text g.black says.black in in_order fs (name Black (b ∷ text)) (rw none refl) refl
name_follows fs bs White (b ∷ text) g says = let none = name_first fs bs White b text g.white says.white in in_order fs (name White (b ∷ text)) (rw none refl) refl

-- headers: no key occurs twice
key_below : (e f : List ℕ) → is_below e f ≡ true → pointwise nat_eq e f ≡ false
key_below e f h =
    elim (cases_Bool (pointwise nat_eq e f)) [
      | inl t ↦
          let same : e ≡ f = (bytes_decides e f).0 t in
          let below : is_below f f ≡ true = rw same at h in
          absurd (not_itself f below)
      | inr n ↦ n
    ]

no_twin : (front : List Entry) (e : Entry) (following : List Entry) → Rising (front ++ e ∷ following) → under e.key (front ++ following) ≡ []
no_twin [] e following h = none_later e following h
no_twin (f ∷ front) e following h =
    skipped (pointwise nat_eq f.key e.key) f (under e.key (front ++ following)) (key_below f.key e.key (before_later f front e following h))
    (no_twin front e following (rising_without [] f (front ++ e ∷ following) h))

abbrev of_key : List ℕ → List ℕ × List ℕ → Bool
of_key key h = pointwise nat_eq h.0 key

some_hit : {X : Type 0} (p : X → Bool) (xs : List X) (y : X) (ys : List X) → p y ≡ true → stands (filter p (xs ++ y ∷ ys)) ≡ true
some_hit p [] y ys h = rw h refl
some_hit p (x ∷ xs) y ys h =
    elim (cases_Bool (p x)) [
      | inl hit ↦ rw hit refl
      | inr miss ↦ rw miss (some_hit p xs y ys h)
    ]

key_once : (xs : List (List ℕ × List ℕ)) (h : List ℕ × List ℕ) (ys : List (List ℕ × List ℕ)) (es : List Entry) → AreEntries (xs ++ h ∷ ys) es → Rising es → stands (filter (λ (k : List ℕ × List ℕ). pointwise nat_eq k.0 h.0) xs) ≡ false
key_once [] h ys es a rising = refl
key_once (x ∷ xs) h ys es (front, e, following, all, key_is, value, others) rising =
    let here : Rising (front ++ e ∷ following) = subst Rising all rising in
    let later = key_once xs h ys (front ++ following) others (rising_without front e following here) in
    elim (cases_Bool (pointwise nat_eq x.0 h.0)) [
      | inl hit ↦
          let same : x.0 ≡ h.0 = (bytes_decides x.0 h.0).0 hit in
          let own : under h.0 (front ++ following) ≡ [] = subst (λ k. under k (front ++ following) ≡ []) (key_is ∙ same) (no_twin front e following here) in
          let stood : true ≡ stands (under h.0 (front ++ following)) = sym (some_hit (λ (k : List ℕ × List ℕ). pointwise nat_eq k.0 h.0) xs h ys ((bytes_decides h.0 h.0).1 refl)) ∙ same_keys h.0 (xs ++ h ∷ ys) (front ++ following) others in
          absurd (false≢true (sym (stood ∙ ap stands own)))
      | inr miss ↦ rw miss later
    ]

header_follows : (fs bs : List Saying) (key text : List ℕ) (g : Game) → Says (fs ++ header key text ∷ bs) g → AnswersItem fs (header key text) None
header_follows fs bs key [] g says = refl
header_follows fs bs key (b ∷ text) g says =
    let all : AreEntries (headers fs ++ (key, b ∷ text) ∷ headers bs) g.headers = subst (λ hs. AreEntries hs g.headers) (filter_map-append header_given fs (header key (b ∷ text) ∷ bs)) says.headers in
    let once = key_once (headers fs) (key, b ∷ text) (headers bs) g.headers all says.game.rising in
    let as_long = as_many (headers fs ++ (key, b ∷ text) ∷ headers bs) g.headers all in
    let joined = length-append (headers fs) ((key, b ∷ text) ∷ headers bs) in
    let limit = says.game.few_headers in
    let few : nat_le 64 (length (headers fs)) ≡ false = lt-leb 64 (length (headers fs)) (omega (arith, as_long, joined, limit)) in
    in_order fs (header key (b ∷ text)) (rw (once, few) refl) refl

-- the start that is laid out
record IsLaidOut (ss : List Saying) (g : Game) : Type 0 where
  layout : Layout
  laid : laid_out ss ≡ Ok layout
  start : g.start ≡ position_of layout g.start.side

whole_laid : (ss : List Saying) (g : Game) → AllByRecursion IsWritten ss → Says ss g → IsLaidOut ss g
whole_laid ss g written says =
    let s = says.start in
    let u = s.union in
    let given = filter_map rest_given (placings (positions ss)) in
    let full : Within (with_rest_given given s.layout) = subst (λ (p : Placed). IsWithinTotals p.material) s.start_is says.game.sound.within in
    let within = before_rest s.layout given (ap length u.black) (ap length u.white) full in
    record {
      layout = with_rest_given given s.layout;
      laid = union_laid_out ss s.layout written says.even_first u within;
      start = s.start_is;
    }

-- if placings can be placed, so can any front of them
can_place : (r : Result Layout SetupFault) (s t : Layout) (ps qs : _) → place_all s ps ≡ r → place_all s (ps ++ qs) ≡ Ok t → None ≡ start_why r
can_place (Ok u) s t ps qs e h = refl
can_place (Err f) s t ps qs e h = let clash : Err f ≡ Ok t = sym (placed_fault s f ps qs e) ∙ h in cc

front_places : (ss rs : List Saying) (t : Layout) → stands ss ≡ true → place_all (board_alone (first_board (ss ++ rs))) (placings (ss ++ rs)) ≡ Ok t → None ≡ start_why (place_all (board_alone (first_board ss)) (placings ss))
front_places [] rs t some h = cc
front_places (s ∷ ss) rs t some h =
    can_place _ (board_alone (first_board (s ∷ ss))) t (placings (s ∷ ss)) (placings rs) refl
    (ap (place_all (board_alone (first_board (s ∷ ss)))) (sym (flat_map-append placings_of (s ∷ ss) rs)) ∙ h)

stands_last : {X : Type 0} (xs : List X) (x : X) → stands (xs ++ x ∷ []) ≡ true
stands_last [] x = refl
stands_last (y ∷ ys) x = refl

positions_last : (fs : List Saying) (s : Saying) → is_position s ≡ true → stands (positions (fs ++ s ∷ [])) ≡ true
positions_last fs s is =
    let hit : positions (s ∷ []) ≡ s ∷ [] = rw is refl in
    ap stands (filter-append is_position fs (s ∷ []) ∙ ap (λ ss. positions fs ++ ss) hit) ∙ stands_last (positions fs) s

front_laid : (fs : List Saying) (s : Saying) (bs : List Saying) (g : Game) → is_position s ≡ true → AllByRecursion IsWritten (fs ++ s ∷ bs) → Says (fs ++ s ∷ bs) g → None ≡ start_why (laid_out (fs ++ s ∷ []))
front_laid fs s bs g is written says =
    let whole = whole_laid (fs ++ s ∷ bs) g written says in
    let split : positions (fs ++ s ∷ bs) ≡ positions (fs ++ s ∷ []) ++ positions bs = ap positions (sym (append_assoc fs (s ∷ []) bs)) ∙ filter-append is_position (fs ++ s ∷ []) bs in
    front_places (positions (fs ++ s ∷ [])) (positions bs) whole.layout (positions_last fs s is)
    (ap (λ ps. place_all (board_alone (first_board ps)) (placings ps)) (sym split) ∙ whole.laid)

-- bodies
starts : Saying → Bool
starts version = false
starts (name c t) = false
starts (header k t) = false
starts (even ps) = true
starts (rank n cs) = true
starts (pieces c ps) = true
starts (turn c) = true
starts (walked c m) = false
starts (time t) = false
starts (ending e) = false

-- the first item of a body with a side is a position statement or the side
head_starts : (xs : List Saying) (s : Saying) (ss : List Saying) (c : Color) (zs : List Saying) → s ∷ ss ≡ positions xs ++ turn c ∷ zs → starts s ≡ true
unfolding starts
head_starts [] s ss c zs h = let same : s ≡ turn c = cc in ap starts same
head_starts (version ∷ xs) s ss c zs h = head_starts xs s ss c zs h
head_starts (name d t ∷ xs) s ss c zs h = head_starts xs s ss c zs h
head_starts (header k t ∷ xs) s ss c zs h = head_starts xs s ss c zs h
head_starts (even ps ∷ xs) s ss c zs h = let same : s ≡ even ps = cc in ap starts same
head_starts (rank n cs ∷ xs) s ss c zs h = let same : s ≡ rank n cs = cc in ap starts same
head_starts (pieces d ps ∷ xs) s ss c zs h = let same : s ≡ pieces d ps = cc in ap starts same
head_starts (turn d ∷ xs) s ss c zs h = head_starts xs s ss c zs h
head_starts (walked d m ∷ xs) s ss c zs h = head_starts xs s ss c zs h
head_starts (time t ∷ xs) s ss c zs h = head_starts xs s ss c zs h
head_starts (ending e ∷ xs) s ss c zs h = head_starts xs s ss c zs h

-- no position statement comes after the side
turn_first : (xs : List Saying) (d : Color) (ss zs : List Saying) → turn d ∷ ss ≡ positions xs ++ zs → positions xs ≡ []
turn_first [] d ss zs h = refl
turn_first (version ∷ xs) d ss zs h = turn_first xs d ss zs h
turn_first (name c t ∷ xs) d ss zs h = turn_first xs d ss zs h
turn_first (header k t ∷ xs) d ss zs h = turn_first xs d ss zs h
turn_first (even ps ∷ xs) d ss zs h = let same : turn d ≡ even ps = cc in cc
turn_first (rank n cs ∷ xs) d ss zs h = let same : turn d ≡ rank n cs = cc in cc
turn_first (pieces c ps ∷ xs) d ss zs h = let same : turn d ≡ pieces c ps = cc in cc
turn_first (turn c ∷ xs) d ss zs h = turn_first xs d ss zs h
turn_first (walked c m ∷ xs) d ss zs h = turn_first xs d ss zs h
turn_first (time t ∷ xs) d ss zs h = turn_first xs d ss zs h
turn_first (ending e ∷ xs) d ss zs h = turn_first xs d ss zs h

-- the body from the next item on, while the start is laid out
body_laying : (fs : List Saying) (s : Saying) (bs : List Saying) (g : Game) → body fs ≡ positions fs → Says (fs ++ s ∷ bs) g → body (s ∷ bs) ≡ positions (s ∷ bs) ++ turn g.start.side ∷ played_items g
body_laying fs s bs g all says =
    without_front (positions fs) (body (s ∷ bs)) (positions (s ∷ bs) ++ turn g.start.side ∷ played_items g)
    (ap (λ xs. xs ++ body (s ∷ bs)) (sym all) ∙ (sym (filter-append is_body fs (s ∷ bs)) ∙ (says.in_order
    ∙ (ap (λ xs. xs ++ turn g.start.side ∷ played_items g) (filter-append is_position fs (s ∷ bs))
    ∙ append_assoc (positions fs) (positions (s ∷ bs)) (turn g.start.side ∷ played_items g)))))

-- and from the side to move on
record BodyPlaying (fs : List Saying) (s : Saying) (bs : List Saying) (c : Course) (g : Game) : Type 0 where
  no_positions : positions (s ∷ bs) ≡ []
  side : c.start.side ≡ g.start.side
  rest_is : move_items c.start.side c.moves ++ (ending_items c.ending ++ body (s ∷ bs)) ≡ played_items g

body_playing : (fs : List Saying) (s : Saying) (bs : List Saying) (c : Course) (g : Game) → body fs ≡ positions fs ++ turn c.start.side ∷ (move_items c.start.side c.moves ++ ending_items c.ending) → Says (fs ++ s ∷ bs) g → BodyPlaying fs s bs c g
body_playing fs s bs c g all says =
    let was = turn c.start.side ∷ (move_items c.start.side c.moves ++ ending_items c.ending) in
    let same : was ++ body (s ∷ bs) ≡ positions (s ∷ bs) ++ turn g.start.side ∷ played_items g =
    without_front (positions fs) (was ++ body (s ∷ bs)) (positions (s ∷ bs) ++ turn g.start.side ∷ played_items g)
    (sym (append_assoc (positions fs) was (body (s ∷ bs))) ∙ (ap (λ xs. xs ++ body (s ∷ bs)) (sym all) ∙ (sym (filter-append is_body fs (s ∷ bs)) ∙ (says.in_order
    ∙ (ap (λ xs. xs ++ turn g.start.side ∷ played_items g) (filter-append is_position fs (s ∷ bs))
    ∙ append_assoc (positions fs) (positions (s ∷ bs)) (turn g.start.side ∷ played_items g)))))) in
    let none = turn_first (s ∷ bs) c.start.side _ _ same in
    let bare : was ++ body (s ∷ bs) ≡ turn g.start.side ∷ played_items g = same ∙ ap (λ xs. xs ++ turn g.start.side ∷ played_items g) none in
    let turns : turn c.start.side ≡ turn g.start.side = cc in
    let played_same : (move_items c.start.side c.moves ++ ending_items c.ending) ++ body (s ∷ bs) ≡ played_items g = cc in
    record {
      no_positions = none;
      side = cc;
      rest_is = sym (append_assoc (move_items c.start.side c.moves) (ending_items c.ending) (body (s ∷ bs))) ∙ played_same;
    }

-- how what was played goes on
abbrev Goes : Placed → List Timed → Option Ended → List Timed → Saying → Type 0
Goes p ts e us version = ⊥
Goes p ts e us (name c t) = ⊥
Goes p ts e us (header k t) = ⊥
Goes p ts e us (even ps) = ⊥
Goes p ts e us (rank n cs) = ⊥
Goes p ts e us (pieces c ps) = ⊥
Goes p ts e us (turn c) = ⊥
Goes p ts e us (walked color m) = (e ≡ None) × (color ≡ (position_after p (map move_of ts)).side) × (more : List Move) × (map move_of us ≡ map move_of ts ++ m ∷ more)
Goes p ts e us (time n) = awaits_after_it ts e ≡ true
Goes p ts e us (ending x) = e ≡ None

awaits_more : (t : Timed) (ts : List Timed) (e : Option Ended) → awaits_after_it ts e ≡ true → awaits_after_it (t ∷ ts) e ≡ true
awaits_more t [] None h = cc
awaits_more t (v ∷ vs) None h = h
awaits_more t ts (Some x) h = h

goes_more : (p : Placed) (t u : Timed) (ts us : List Timed) (e : Option Ended) (s : Saying) → t.move ≡ u.move → Goes (after p t.move) ts e us s → Goes p (t ∷ ts) e (u ∷ us) s
goes_more p t u ts us e version same h = h
goes_more p t u ts us e (name c x) same h = h
goes_more p t u ts us e (header k x) same h = h
goes_more p t u ts us e (even ps) same h = h
goes_more p t u ts us e (rank n cs) same h = h
goes_more p t u ts us e (pieces c ps) same h = h
goes_more p t u ts us e (turn c) same h = h
goes_more p t u ts us e (walked color m) same (none, side, more, all) =
    (none, side, more, ap (λ (x : Move). x ∷ map move_of us) (sym same) ∙ ap (λ (ms : List Move). t.move ∷ ms) all)
goes_more p t u ts us e (time n) same h = awaits_more t ts e h
goes_more p t u ts us e (ending x) same h = h

no_time : (c : Color) (ts : List Timed) (e : Option Ended) (n : ℕ) (ss : List Saying) → time n ∷ ss ≡ move_items c ts ++ ending_items e → ⊥
no_time c [] None n ss h = cc
no_time c [] (Some e) n ss h = let head : time n ≡ ending e.ending = cc in cc
no_time c (t ∷ ts) e n ss h = let head : time n ≡ walked c t.move = cc in cc

-- if a time comes next, the last move awaits it
time_next : (p : Placed) (t u : Timed) (ts us : List Timed) (e : Option Ended) (s : Saying) (ss : List Saying) (n : ℕ) (zs : List Saying) → t.time ≡ None → move_items (opponent p.side) ts ++ (ending_items e ++ s ∷ ss) ≡ time n ∷ zs → Goes p (t ∷ ts) e (u ∷ us) s
time_next p t u [] us None s ss n zs none h =
    let same : s ≡ time n = cc in
    subst (Goes p (t ∷ []) None (u ∷ us)) (sym same) (ap (λ (o : Option ℕ). not (is_some o)) none)
time_next p t u [] us (Some x) s ss n zs none h = let head : ending x.ending ≡ time n = cc in cc
time_next p t u (v ∷ vs) us e s ss n zs none h = let head : walked (opponent p.side) v.move ≡ time n = cc in cc

ended_next : (p : Placed) (x y : Ended) (s : Saying) (ss : List Saying) (a b : Option ℕ) → x.time ≡ a → time_items a ++ s ∷ ss ≡ time_items b → Goes p [] (Some x) [] s
ended_next p x y s ss None None is h = cc
ended_next p x y s ss None (Some n) is h =
    let same : s ≡ time n = cc in
    subst (Goes p [] (Some x) []) (sym same) (ap (λ (o : Option ℕ). not (is_some o)) is)
ended_next p x y s ss (Some m) None is h = cc
ended_next p x y s ss (Some m) (Some n) is h = let clash : s ∷ ss ≡ [] = cc in cc

goes_by : (p : Placed) (t u : Timed) (ts us : List Timed) (e f : Option Ended) (s : Saying) (ss : List Saying) (a b : Option ℕ) → t.time ≡ a → t.move ≡ u.move
    → (move_items (opponent p.side) ts ++ (ending_items e ++ s ∷ ss) ≡ move_items (opponent p.side) us ++ ending_items f → Goes (after p t.move) ts e us s)
    → (time_items a ++ move_items (opponent p.side) ts) ++ (ending_items e ++ s ∷ ss) ≡ (time_items b ++ move_items (opponent p.side) us) ++ ending_items f → Goes p (t ∷ ts) e (u ∷ us) s
goes_by p t u ts us e f s ss None None is same later h = goes_more p t u ts us e s same (later h)
goes_by p t u ts us e f s ss None (Some n) is same later h = time_next p t u ts us e s ss n (move_items (opponent p.side) us ++ ending_items f) is h
goes_by p t u ts us e f s ss (Some m) None is same later h = absurd (no_time (opponent p.side) us f m (move_items (opponent p.side) ts ++ (ending_items e ++ s ∷ ss)) h)
goes_by p t u ts us e f s ss (Some m) (Some n) is same later h =
    let following : move_items (opponent p.side) ts ++ (ending_items e ++ s ∷ ss) ≡ move_items (opponent p.side) us ++ ending_items f = cc in
    goes_more p t u ts us e s same (later following)

goes : (p : Placed) (ts us : List Timed) (e f : Option Ended) (s : Saying) (ss : List Saying) → move_items p.side ts ++ (ending_items e ++ s ∷ ss) ≡ move_items p.side us ++ ending_items f → Goes p ts e us s
goes p [] [] None None s ss h = cc
goes p [] [] None (Some y) s ss h = let same : s ≡ ending y.ending = cc in subst (Goes p [] None []) (sym same) refl
goes p [] (u ∷ us) None f s ss h =
    let same : s ≡ walked p.side u.move = cc in
    subst (Goes p [] None (u ∷ us)) (sym same) (refl, refl, map move_of us, refl)
goes p [] [] (Some x) None s ss h = cc
goes p [] [] (Some x) (Some y) s ss h =
    let following : time_items x.time ++ s ∷ ss ≡ time_items y.time = cc in
    ended_next p x y s ss x.time y.time refl following
goes p [] (u ∷ us) (Some x) f s ss h = let head : ending x.ending ≡ walked p.side u.move = cc in cc
goes p (t ∷ ts) [] e None s ss h = cc
goes p (t ∷ ts) [] e (Some y) s ss h = let head : walked p.side t.move ≡ ending y.ending = cc in cc
goes p (t ∷ ts) (u ∷ us) e f s ss h =
    let heads : walked p.side t.move ≡ walked p.side u.move = cc in
    let same : t.move ≡ u.move = cc in
    let following : (time_items t.time ++ move_items (opponent p.side) ts) ++ (ending_items e ++ s ∷ ss) ≡ (time_items u.time ++ move_items (opponent p.side) us) ++ ending_items f = cc in
    goes_by p t u ts us e f s ss t.time u.time refl same (λ later. goes (after p t.move) ts us e f s ss later) following

-- a game's moves follow one another
last_or_more : {X : Type 0} (xs : List X) (x : X) (ys : List X) (y : X) (zs : List X) → xs ++ x ∷ [] ≡ ys ++ y ∷ zs → ((xs ≡ ys) × (x ≡ y)) ⊎ ((ws : List X) × (xs ≡ ys ++ y ∷ ws))
last_or_more [] x [] y zs h = let same : x ≡ y = cc in inl (refl, same)
last_or_more [] x (b ∷ ys) y zs h = let none : [] ≡ ys ++ y ∷ zs = cc in absurd (not_empty ys zs y (sym none))
last_or_more (a ∷ xs) x [] y zs h = let same : a ≡ y = cc in inr (xs, ap (λ v. v ∷ xs) same)
last_or_more (a ∷ xs) x (b ∷ ys) y zs h =
    let same : a ≡ b = cc in
    let following : xs ++ x ∷ [] ≡ ys ++ y ∷ zs = cc in
    elim (last_or_more xs x ys y zs following) [
      | inl end ↦ inl (ap (λ v. v ∷ xs) same ∙ ap (λ vs. b ∷ vs) end.0, end.1)
      | inr more ↦ inr (more.0, ap (λ v. v ∷ xs) same ∙ ap (λ vs. b ∷ vs) more.1)
    ]

move_follows : (start : Placed) (all : List Move) → IsGame start all → (ms : List Move) (m : Move) (more : List Move) → all ≡ ms ++ m ∷ more → MayFollow start ms m
move_follows start _ begun ms m more h = absurd (not_empty ms more m (sym h))
move_follows start _ (played before n game follows) ms m more h =
    elim (last_or_more before n ms m more h) [
      | inl end ↦ subst (λ (x : Move). MayFollow start ms x) end.1 (subst (λ (xs : List Move). MayFollow start xs n) end.0 follows)
      | inr later ↦ move_follows start before game ms m later.0 later.1
    ]

all_kept : (c : Course) (color : Color) (m : Move) → color ≡ (position_after c.start (map move_of c.moves)).side → MayFollow c.start (map move_of c.moves) m
    → AllKept (rules.Kept (course_line c) color m) all_rules
all_kept c color m side f =
    let fits = f.legal.keeps.fits in
    (side, (f.not_over, (fits.has_piece, (fits.kind_fits, (fits.target_free, (fits.reaches, (fits.may_promote, (fits.further_move, (fits.lone_pawn, (f.legal.keeps.king_safe, (f.legal.no_drop_mate, tt)))))))))))

unbroken : (kept : Rule → Type 0) → AllKept kept all_rules → (answer : Option Rule) → IsFirstBroken kept all_rules answer → IsFirstBroken kept all_rules None
unbroken kept all None h = h
unbroken kept all (Some r) h = absurd (broken-not-kept kept all_rules r h all)

may_play : (c : Course) (color : Color) (m : Move) → length (map move_of c.moves) < 10000 → color ≡ (position_after c.start (map move_of c.moves)).side → MayFollow c.start (map move_of c.moves) m → plays.Answers (course_line c) color m None
may_play c color m few side f =
    let line = course_line c in
    let answer = some-broken (rules.Kept line color m) all_rules (decide-kept line color m) in
    (few, unbroken (rules.Kept line color m) (all_kept c color m side f) answer.0 answer.1)

-- the stage
now_playing : (fs : List Saying) (k : Kept) (c : Course) → HasKept fs k → k.stage ≡ playing c → KeepsStage fs (playing c)
now_playing fs k c h is = subst (KeepsStage fs) is h.stage

is_playing : (fs : List Saying) (k : Kept) (c : Course) → HasKept fs k → k.stage ≡ playing c → IsPlaying fs c.start.side c.moves c.ending
is_playing fs k c h is = playing_body fs c.start.side c.moves c.ending (now_playing fs k c h is).3

same_start : (fs : List Saying) (s : Saying) (bs : List Saying) (k : Kept) (c : Course) (g : Game) → HasKept fs k → k.stage ≡ playing c → AllByRecursion IsWritten (fs ++ s ∷ bs) → Says (fs ++ s ∷ bs) g → BodyPlaying fs s bs c g → c.start ≡ g.start
same_start fs s bs k c g h is written says b =
    let now = now_playing fs k c h is in
    let whole = whole_laid (fs ++ s ∷ bs) g written says in
    let split : positions (fs ++ s ∷ bs) ≡ positions fs = filter-append is_position fs (s ∷ bs) ∙ (ap (λ xs. positions fs ++ xs) b.no_positions ∙ append-nil (positions fs)) in
    let both : Ok now.0 ≡ Ok whole.layout = sym now.1 ∙ (ap (λ ps. place_all (board_alone (first_board ps)) (placings ps)) (sym split) ∙ whole.laid) in
    let layouts : now.0 ≡ whole.layout = cc in
    now.2 ∙ (ap (λ (l : Layout). position_of l c.start.side) layouts ∙ (ap (λ (d : Color). position_of whole.layout d) b.side ∙ sym whole.start))

body_goes : (fs : List Saying) (s : Saying) (bs : List Saying) (k : Kept) (c : Course) (g : Game) → is_body s ≡ true → HasKept fs k → k.stage ≡ playing c → AllByRecursion IsWritten (fs ++ s ∷ bs) → Says (fs ++ s ∷ bs) g → Goes c.start c.moves c.ending g.moves s
body_goes fs s bs k c g of_body h is written says =
    let b = body_playing fs s bs c g (now_playing fs k c h is).3 says in
    let hit : body (s ∷ bs) ≡ s ∷ body bs = rw of_body refl in
    goes c.start c.moves g.moves c.ending g.ending s (body bs)
    (ap (λ xs. move_items c.start.side c.moves ++ (ending_items c.ending ++ xs)) (sym hit) ∙ (b.rest_is ∙ ap (λ (d : Color). move_items d g.moves ++ ending_items g.ending) (sym b.side)))

no_ending : (o : Option Ended) → o ≡ None → is_some o ≡ false
no_ending o h = ap is_some h

-- position statements
even_follows : (fs bs : List Saying) (pairs : List Pair) (k : Kept) (g : Game) (stage : Stage) → k.stage ≡ stage → HasKept fs k → AllByRecursion IsWritten (fs ++ even pairs ∷ bs) → Says (fs ++ even pairs ∷ bs) g → AnswersItem fs (even pairs) None
even_follows fs bs pairs k g (playing c) is h written says =
    let b = body_playing fs (even pairs) bs c g (now_playing fs k c h is).3 says in
    let clash : even pairs ∷ positions bs ≡ [] = b.no_positions in
    cc
even_follows fs bs pairs k g (laying l) is h written says =
    let none = is_laying fs k l h is in
    let first = first_only is_even (positions fs) (positions bs) (even pairs) refl (ap (λ xs. filter is_even (drop 1 xs)) (sym (filter-append is_position fs (even pairs ∷ bs))) ∙ says.even_first) in
    in_order fs (even pairs) (rw (none.endings, none.sides, first) refl) (front_laid fs (even pairs) bs g refl written says)

no_even : (fs bs : List Saying) (number : ℕ) (cells : List (Option Piece)) → (filter is_even (fs ++ rank number cells ∷ bs) ≡ []) ⊎ (ranks (fs ++ rank number cells ∷ bs) ≡ []) → filter is_even fs ≡ []
no_even fs bs number cells (inl none) = front_empty (filter is_even fs) (filter is_even (rank number cells ∷ bs)) (sym (filter-append is_even fs (rank number cells ∷ bs)) ∙ none)
no_even fs bs number cells (inr none) = absurd (not_empty (ranks fs) (ranks bs) number (sym (filter_map-append rank_given fs (rank number cells ∷ bs)) ∙ none))

self_equal : (n : ℕ) → (n == n) ≡ true
self_equal n = grind arith

no_rank : (fs bs : List Saying) (number : ℕ) (cells : List (Option Piece)) → AtMostOne (filter (λ n. n == number) (ranks (fs ++ rank number cells ∷ bs))) → filter (λ n. n == number) (ranks fs) ≡ []
no_rank fs bs number cells one =
    let hit : filter (λ n. n == number) (number ∷ ranks bs) ≡ number ∷ filter (λ n. n == number) (ranks bs) = rw (self_equal number) refl in
    let split = ap (filter (λ n. n == number)) (filter_map-append rank_given fs (rank number cells ∷ bs)) ∙ (filter-append (λ n. n == number) (ranks fs) (number ∷ ranks bs) ∙ ap (λ ns. filter (λ n. n == number) (ranks fs) ++ ns) hit) in
    only_last (filter (λ n. n == number) (ranks fs)) (filter (λ n. n == number) (ranks bs)) number (subst (λ (ns : List ℕ). AtMostOne ns) split one)

rank_follows : (fs bs : List Saying) (number : ℕ) (cells : List (Option Piece)) (k : Kept) (g : Game) (stage : Stage) → k.stage ≡ stage → HasKept fs k → AllByRecursion IsWritten (fs ++ rank number cells ∷ bs) → Says (fs ++ rank number cells ∷ bs) g → AnswersItem fs (rank number cells) None
rank_follows fs bs number cells k g (playing c) is h written says =
    let b = body_playing fs (rank number cells) bs c g (now_playing fs k c h is).3 says in
    let clash : rank number cells ∷ positions bs ≡ [] = b.no_positions in
    cc
rank_follows fs bs number cells k g (laying l) is h written says =
    let none = is_laying fs k l h is in
    let evens = no_even fs bs number cells says.even_or_ranks in
    let twice = no_rank fs bs number cells (says.ranks_once number) in
    in_order fs (rank number cells) (rw (none.endings, none.sides, evens, twice) refl) (front_laid fs (rank number cells) bs g refl written says)

pieces_follows : (fs bs : List Saying) (color : Color) (pairs : List Pair) (k : Kept) (g : Game) (stage : Stage) → k.stage ≡ stage → HasKept fs k → AllByRecursion IsWritten (fs ++ pieces color pairs ∷ bs) → Says (fs ++ pieces color pairs ∷ bs) g → AnswersItem fs (pieces color pairs) None
pieces_follows fs bs color pairs k g (playing c) is h written says =
    let b = body_playing fs (pieces color pairs) bs c g (now_playing fs k c h is).3 says in
    let clash : pieces color pairs ∷ positions bs ≡ [] = b.no_positions in
    cc
pieces_follows fs bs color pairs k g (laying l) is h written says =
    let none = is_laying fs k l h is in
    in_order fs (pieces color pairs) (rw (none.endings, none.sides) refl) (front_laid fs (pieces color pairs) bs g refl written says)

-- the side to move
turn_follows : (fs bs : List Saying) (color : Color) (k : Kept) (g : Game) (stage : Stage) → k.stage ≡ stage → HasKept fs k → AllByRecursion IsWritten (fs ++ turn color ∷ bs) → Says (fs ++ turn color ∷ bs) g → AnswersItem fs (turn color) None
turn_follows fs bs color k g (playing c) is h written says = absurd (body_goes fs (turn color) bs k c g refl h is written says)
turn_follows fs bs color k g (laying l) is h written says =
    let none = is_laying fs k l h is in
    let lays = lays_now fs k l h is in
    let stage : KeepsStage fs (laying l) = subst (KeepsStage fs) is h.stage in
    let following : turn color ∷ body bs ≡ positions bs ++ turn g.start.side ∷ played_items g = body_laying fs (turn color) bs g stage.1 says in
    let bare = turn_first bs color (body bs) (turn g.start.side ∷ played_items g) following in
    let now : turn color ∷ body bs ≡ turn g.start.side ∷ played_items g = following ∙ ap (λ xs. xs ++ turn g.start.side ∷ played_items g) bare in
    let turns : turn color ≡ turn g.start.side = cc in
    let side : color ≡ g.start.side = cc in
    let whole = whole_laid (fs ++ turn color ∷ bs) g written says in
    let split : positions (fs ++ turn color ∷ bs) ≡ positions fs = filter-append is_position fs (turn color ∷ bs) ∙ (ap (λ xs. positions fs ++ xs) bare ∙ append-nil (positions fs)) in
    let both : Ok l.layout ≡ Ok whole.layout = sym lays.laid ∙ (ap (λ ps. place_all (board_alone (first_board ps)) (placings ps)) (sym split) ∙ whole.laid) in
    let layouts : l.layout ≡ whole.layout = cc in
    let boards : l.layout.material.board ≡ g.start.material.board = ap (λ (x : Layout). x.material.board) layouts ∙ ap (λ (p : Placed). p.material.board) (sym whole.start) in
    in_order fs (turn color) (rw (none.endings, none.sides) refl)
    (subst (λ r. Finishes r color None) (sym lays.laid)
    (λ check. says.game.sound.safe (subst (λ (d : Color). InCheck g.start.material.board (opponent d)) side (subst (λ cells. InCheck cells (opponent color)) boards check))))

-- moves
line_now : (fs : List Saying) (k : Kept) (c : Course) → HasKept fs k → k.stage ≡ playing c → IsLineOf fs (course_line c)
line_now fs k c h is =
    let stage = now_playing fs k c h is in
    let now = is_playing fs k c h is in
    record { layout = stage.0; side = c.start.side; laid = stage.1; side_is = now.sides; start = stage.2; moves_are = sym now.moves }

not_laying : (fs bs : List Saying) (s : Saying) (k : Kept) (l : Laid) (g : Game) → is_body s ≡ true → starts s ≡ false → is_position s ≡ false → k.stage ≡ laying l → HasKept fs k → Says (fs ++ s ∷ bs) g → ⊥
not_laying fs bs s k l g of_body other no_position is h says =
    let stage : KeepsStage fs (laying l) = subst (KeepsStage fs) is h.stage in
    let all = body_laying fs s bs g stage.1 says in
    let hit : body (s ∷ bs) ≡ s ∷ body bs = rw of_body refl in
    let miss : positions (s ∷ bs) ≡ positions bs = rw no_position refl in
    false≢true (sym other ∙ head_starts bs s (body bs) g.start.side (played_items g) (sym hit ∙ (all ∙ ap (λ xs. xs ++ turn g.start.side ∷ played_items g) miss)))

walked_follows : (fs bs : List Saying) (color : Color) (m : Move) (k : Kept) (g : Game) (stage : Stage) → k.stage ≡ stage → HasKept fs k → AllByRecursion IsWritten (fs ++ walked color m ∷ bs) → Says (fs ++ walked color m ∷ bs) g → AnswersItem fs (walked color m) None
unfolding starts
walked_follows fs bs color m k g (laying l) is h written says = absurd (not_laying fs bs (walked color m) k l g refl refl refl is h says)
walked_follows fs bs color m k g (playing c) is h written says =
    let b = body_playing fs (walked color m) bs c g (now_playing fs k c h is).3 says in
    let start = same_start fs (walked color m) bs k c g h is written says b in
    let on = body_goes fs (walked color m) bs k c g refl h is written says in
    let now = is_playing fs k c h is in
    let line : IsGame c.start (map move_of g.moves) = subst (λ (p : Placed). IsGame p (map move_of g.moves)) (sym start) says.game.line in
    let follows = move_follows c.start (map move_of g.moves) line (map move_of c.moves) m on.2 on.3 in
    let joined = length-append (map move_of c.moves) (m ∷ on.2) in
    let as_long = length-map g.moves move_of in
    let whole : length (map move_of g.moves) ≡ length (map move_of c.moves ++ m ∷ on.2) = ap length on.3 in
    let limit = says.game.few_moves in
    let few : length (map move_of c.moves) < 10000 = omega (arith, joined, as_long, whole, limit) in
    let not_many : nat_le 10000 (length (moves fs)) ≡ false = ap (λ (ms : List Move). nat_le 10000 (length ms)) now.moves ∙ lt-leb 10000 (length (map move_of c.moves)) few in
    let open_yet : stands (endings fs) ≡ false = now.endings ∙ no_ending c.ending on.0 in
    let sided : stands (sides fs) ≡ true = ap stands now.sides in
    in_order fs (walked color m) (rw (open_yet, sided, not_many) refl) (course_line c, line_now fs k c h is, None, may_play c color m few on.1 follows, refl)

-- times
time_follows : (fs bs : List Saying) (n : ℕ) (k : Kept) (g : Game) (stage : Stage) → k.stage ≡ stage → HasKept fs k → AllByRecursion IsWritten (fs ++ time n ∷ bs) → Says (fs ++ time n ∷ bs) g → AnswersItem fs (time n) None
unfolding starts
time_follows fs bs n k g (laying l) is h written says = absurd (not_laying fs bs (time n) k l g refl refl refl is h says)
time_follows fs bs n k g (playing c) is h written says =
    let can : awaits_after_it c.moves c.ending ≡ true = body_goes fs (time n) bs k c g refl h is written says in
    let awaited : last_may_have_time (body fs) ≡ true = (is_playing fs k c h is).awaits ∙ can in
    in_order fs (time n) (rw awaited refl) refl

-- endings
ending_follows : (fs bs : List Saying) (e : Ending) (k : Kept) (g : Game) (stage : Stage) → k.stage ≡ stage → HasKept fs k → AllByRecursion IsWritten (fs ++ ending e ∷ bs) → Says (fs ++ ending e ∷ bs) g → AnswersItem fs (ending e) None
unfolding starts
ending_follows fs bs e k g (laying l) is h written says = absurd (not_laying fs bs (ending e) k l g refl refl refl is h says)
ending_follows fs bs e k g (playing c) is h written says =
    let none : c.ending ≡ None = body_goes fs (ending e) bs k c g refl h is written says in
    let now = is_playing fs k c h is in
    let open_yet : stands (endings fs) ≡ false = now.endings ∙ no_ending c.ending none in
    let sided : stands (sides fs) ≡ true = ap stands now.sides in
    in_order fs (ending e) (rw (open_yet, sided) refl) refl

-- an item of those that say a game is taken after those before it
pub follows : (fs : List Saying) (s : Saying) (bs : List Saying) (k : Kept) (g : Game) → HasKept fs k → AllByRecursion IsWritten (fs ++ s ∷ bs) → Says (fs ++ s ∷ bs) g → AnswersItem fs s None
follows fs version bs k g h written says = version_follows fs bs g says
follows fs (name color text) bs k g h written says = name_follows fs bs color text g says
follows fs (header key text) bs k g h written says = header_follows fs bs key text g says
follows fs (even pairs) bs k g h written says = even_follows fs bs pairs k g k.stage refl h written says
follows fs (rank number cells) bs k g h written says = rank_follows fs bs number cells k g k.stage refl h written says
follows fs (pieces color pairs) bs k g h written says = pieces_follows fs bs color pairs k g k.stage refl h written says
follows fs (turn color) bs k g h written says = turn_follows fs bs color k g k.stage refl h written says
follows fs (walked color m) bs k g h written says = walked_follows fs bs color m k g k.stage refl h written says
follows fs (time n) bs k g h written says = time_follows fs bs n k g k.stage refl h written says
follows fs (ending e) bs k g h written says = ending_follows fs bs e k g k.stage refl h written says
