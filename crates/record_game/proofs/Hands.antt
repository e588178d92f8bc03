-- Ranks and hands give their start: the hands, and all together.
use Rattle.std.proofs.Common.{◌≡◌, ℕ, zero, suc, ◌+◌, ◌-◌, ◌<◌, ◌&&◌, Bool, true, false, List, [], ◌∷◌, ◌++◌, length, filter, map, get_or, Option, Some, None, refl, sym, ap, ◌∙◌, arith}
use Rattle.std.specs.Prelude.{replicate, if◌then◌else◌}
use Rattle.std.specs.List.{AllByRecursion, filter_map, flat_map}
use Rattle.std.specs.Option.{option_to_list}
use Rattle.std.proofs.lemmas.List.{append-nil, length-append}
use Rattle.std.proofs.lemmas.List.Elements.{filter_map-append, filter-append}
use Rattle.shogi_board.specs.declared.color.Color.{Color}
use Rattle.shogi_board.specs.declared.color.Color.TheVariants.{Black, White}
use Rattle.shogi_board.specs.declared.kind.Kind.{Kind}
use Rattle.shogi_board.specs.declared.kind.Kind.TheVariants.{Pawn, Lance, Knight, Silver, Gold, Bishop, Rook}
use Rattle.shogi_board.specs.declared.kind.Piece.{Piece}
use Rattle.shogi_board.specs.Cells.{Cells, no_cells}
use Rattle.shogi_board.specs.Placed.{Placed}
use Rattle.shogi_board.specs.Pieces as kinds
use Rattle.shogi_board.specs.Pieces.{same_color, same_kind}
use Rattle.shogi_board.specs.Setup.{layout_of}
use Rattle.shogi_board.specs.Totals.{count_in, hand_kinds}
use Rattle.csa_text.specs.declared.pair.Pair.{Pair}
use Rattle.csa_text.specs.declared.pair.Pair.TheVariants.{InHand}
use Rattle.csa_text.specs.Saying.{Saying, rank}
use Rattle.shogi_board.specs.Placing.{Placing, on, off, in_hand, rest}
use Rattle.record_game.specs.Placings.{cells_placings, pair_placing, placings_of, placings}
use Rattle.record_game.specs.Union.{off_at, put_on, is_held, rest_given, MayBeHeld, RestIsLast, bag_given, IsUnion, GiveStart}
use Rattle.record_game.specs.Canon.{rank_cells, rank_items, hand_pairs, pairs_items, hand_items}
use Rattle.record_game.proofs.Bytes.{all_joined}
use Rattle.record_game.proofs.ByRanks.{ranks_cell, flat_joined}

-- neither taken off nor all remaining pieces
abbrev IsPlain : Placing → Type 0
IsPlain (on m p) = Unit {0}
IsPlain (off m k) = ⊥
IsPlain (in_hand c k) = kinds.is_hand_kind k ≡ true
IsPlain (rest c) = ⊥

none_off : (n : ℕ) (ps : List Placing) → AllByRecursion IsPlain ps → filter_map (off_at n) ps ≡ []
none_off n [] h = refl
none_off n (on m p ∷ ps) h = none_off n ps h.1
none_off n (off m k ∷ ps) h = absurd h.0
none_off n (in_hand c k ∷ ps) h = none_off n ps h.1
none_off n (rest c ∷ ps) h = absurd h.0

none_given : (ps : List Placing) → AllByRecursion IsPlain ps → filter_map rest_given ps ≡ []
none_given [] h = refl
none_given (on m p ∷ ps) h = none_given ps h.1
none_given (off m k ∷ ps) h = absurd h.0
none_given (in_hand c k ∷ ps) h = none_given ps h.1
none_given (rest c ∷ ps) h = absurd h.0

may_be_held : (ps : List Placing) → AllByRecursion IsPlain ps → AllByRecursion MayBeHeld ps
may_be_held [] h = tt
may_be_held (on m p ∷ ps) h = (tt, may_be_held ps h.1)
may_be_held (off m k ∷ ps) h = absurd h.0
may_be_held (in_hand c k ∷ ps) h = (h.0, may_be_held ps h.1)
may_be_held (rest c ∷ ps) h = absurd h.0

rest_last : (ps : List Placing) → AllByRecursion IsPlain ps → RestIsLast ps
rest_last [] h = tt
rest_last (on m p ∷ ps) h = rest_last ps h.1
rest_last (off m k ∷ ps) h = absurd h.0
rest_last (in_hand c k ∷ ps) h = rest_last ps h.1
rest_last (rest c ∷ ps) h = absurd h.0

-- ranks put pieces on squares only
abbrev IsOnSquare : Placing → Type 0
IsOnSquare (on m p) = Unit {0}
IsOnSquare (off m k) = ⊥
IsOnSquare (in_hand c k) = ⊥
IsOnSquare (rest c) = ⊥

cells_on : (file number : ℕ) (cs : List (Option Piece)) → AllByRecursion IsOnSquare (cells_placings file number cs)
cells_on file number [] = tt
cells_on file number (None ∷ cs) = cells_on (file - 1) number cs
cells_on file number (Some p ∷ cs) = (tt, cells_on (file - 1) number cs)

ranks_on : (cells : Cells) (ns : List ℕ) → AllByRecursion IsOnSquare (placings (map (λ number. rank number (rank_cells cells number)) ns))
ranks_on cells [] = tt
ranks_on cells (n ∷ ns) = all_joined IsOnSquare (cells_placings 9 n (rank_cells cells n)) (placings (map (λ m. rank m (rank_cells cells m)) ns)) (cells_on 9 n (rank_cells cells n)) (ranks_on cells ns)

on_plain : (ps : List Placing) → AllByRecursion IsOnSquare ps → AllByRecursion IsPlain ps
on_plain [] h = tt
on_plain (on m p ∷ ps) h = (tt, on_plain ps h.1)
on_plain (off m k ∷ ps) h = absurd h.0
on_plain (in_hand c k ∷ ps) h = absurd h.0
on_plain (rest c ∷ ps) h = absurd h.0

on_not_held : (c : Color) (k : Kind) (ps : List Placing) → AllByRecursion IsOnSquare ps → filter (is_held c k) ps ≡ []
on_not_held c k [] h = refl
on_not_held c k (on m p ∷ ps) h = on_not_held c k ps h.1
on_not_held c k (off m l ∷ ps) h = absurd h.0
on_not_held c k (in_hand d l ∷ ps) h = absurd h.0
on_not_held c k (rest d ∷ ps) h = absurd h.0

-- the pairs of a hand, as they are placed
abbrev held_pairs : Color → List ℕ → List Kind → List Placing
held_pairs c bag [] = []
held_pairs c bag (k ∷ ks) = replicate (count_in bag k) (in_hand c k) ++ held_pairs c bag ks

map_replicate : (c : Color) (k : Kind) (m : ℕ) → map (pair_placing c) (replicate m (InHand k)) ≡ replicate m (in_hand c k)
map_replicate c k zero = refl
map_replicate c k (suc m) = ap (λ ps. in_hand c k ∷ ps) (map_replicate c k m)

map_joined : (c : Color) (xs ys : List Pair) → map (pair_placing c) (xs ++ ys) ≡ map (pair_placing c) xs ++ map (pair_placing c) ys
map_joined c [] ys = refl
map_joined c (x ∷ xs) ys = ap (λ ps. pair_placing c x ∷ ps) (map_joined c xs ys)

pairs_held : (c : Color) (bag : List ℕ) (ks : List Kind) → map (pair_placing c) (flat_map (λ k. replicate (count_in bag k) (InHand k)) ks) ≡ held_pairs c bag ks
pairs_held c bag [] = refl
pairs_held c bag (k ∷ ks) =
    map_joined c (replicate (count_in bag k) (InHand k)) (flat_map (λ l. replicate (count_in bag l) (InHand l)) ks)
    ∙ (ap (λ ps. ps ++ map (pair_placing c) (flat_map (λ l. replicate (count_in bag l) (InHand l)) ks)) (map_replicate c k (count_in bag k))
    ∙ ap (λ ps. replicate (count_in bag k) (in_hand c k) ++ ps) (pairs_held c bag ks))

pairs_placed : (c : Color) (ps : List Pair) → placings (pairs_items c ps) ≡ map (pair_placing c) ps
pairs_placed c [] = refl
pairs_placed c (p ∷ ps) = append-nil (map (pair_placing c) (p ∷ ps))

abbrev pub hand_order : List Kind
hand_order = Rook ∷ Bishop ∷ Gold ∷ Silver ∷ Knight ∷ Lance ∷ Pawn ∷ []

hand_placed : (c : Color) (bag : List ℕ) → placings (hand_items c bag) ≡ held_pairs c bag hand_order
hand_placed c bag = pairs_placed c (hand_pairs bag) ∙ pairs_held c bag hand_order

-- they are of the seven kinds, and not on a square
many_plain : (c : Color) (k : Kind) (m : ℕ) → kinds.is_hand_kind k ≡ true → AllByRecursion IsPlain (replicate m (in_hand c k))
many_plain c k zero h = tt
many_plain c k (suc m) h = (h, many_plain c k m h)

held_plain : (c : Color) (bag : List ℕ) (ks : List Kind) → AllByRecursion (λ k. kinds.is_hand_kind k ≡ true) ks → AllByRecursion IsPlain (held_pairs c bag ks)
held_plain c bag [] h = tt
held_plain c bag (k ∷ ks) h =
    all_joined IsPlain (replicate (count_in bag k) (in_hand c k)) (held_pairs c bag ks) (many_plain c k (count_in bag k) h.0) (held_plain c bag ks h.1)

many_not_put : (n : ℕ) (c : Color) (k : Kind) (m : ℕ) (ps : List Placing) → filter_map (put_on n) (replicate m (in_hand c k) ++ ps) ≡ filter_map (put_on n) ps
many_not_put n c k zero ps = refl
many_not_put n c k (suc m) ps = many_not_put n c k m ps

held_not_put : (n : ℕ) (c : Color) (bag : List ℕ) (ks : List Kind) → filter_map (put_on n) (held_pairs c bag ks) ≡ []
held_not_put n c bag [] = refl
held_not_put n c bag (k ∷ ks) = many_not_put n c k (count_in bag k) (held_pairs c bag ks) ∙ held_not_put n c bag ks

-- how many of a kind are put into a hand
abbrev tally : Color → Color → Kind → List ℕ → List Kind → ℕ
tally d c k bag [] = 0
tally d c k bag (j ∷ js) = (if same_color d c && same_kind j k then count_in bag j else 0) + tally d c k bag js

one_kind : (d c : Color) (j k : Kind) (m : ℕ) (b : Bool) (ps : List Placing) → is_held c k (in_hand d j) ≡ b → length (filter (is_held c k) (replicate m (in_hand d j) ++ ps)) ≡ (if b then m else 0) + length (filter (is_held c k) ps)
one_kind d c j k zero true ps e = omega arith
one_kind d c j k zero false ps e = omega arith
one_kind d c j k (suc m) true ps e = rw e (omega (arith, one_kind d c j k m true ps e))
one_kind d c j k (suc m) false ps e = rw e (one_kind d c j k m false ps e)

tallied : (d c : Color) (k : Kind) (bag : List ℕ) (js : List Kind) → length (filter (is_held c k) (held_pairs d bag js)) ≡ tally d c k bag js
tallied d c k bag [] = refl
tallied d c k bag (j ∷ js) =
    one_kind d c j k (count_in bag j) (same_color d c && same_kind j k) (held_pairs d bag js) refl
    ∙ ap (λ n. (if same_color d c && same_kind j k then count_in bag j else 0) + n) (tallied d c k bag js)

own_tally : (c : Color) (bag : List ℕ) → AllByRecursion (λ k. tally c c k bag hand_order ≡ count_in bag k) hand_kinds
own_tally Black bag = (omega arith, (omega arith, (omega arith, (omega arith, (omega arith, (omega arith, (omega arith, tt)))))))
own_tally White bag = (omega arith, (omega arith, (omega arith, (omega arith, (omega arith, (omega arith, (omega arith, tt)))))))

other_tally : (d c : Color) (k : Kind) (bag : List ℕ) (js : List Kind) → same_color d c ≡ false → tally d c k bag js ≡ 0
other_tally d c k bag [] h = refl
other_tally d c k bag (j ∷ js) h = rw h (omega (arith, other_tally d c k bag js h))

-- the counts of seven kinds are the bag
counts_same : (f g : Kind → ℕ) (ks : List Kind) → AllByRecursion (λ k. f k ≡ g k) ks → map f ks ≡ map g ks
counts_same f g [] h = refl
counts_same f g (k ∷ ks) h = rw h.0 (ap (λ ns. g k ∷ ns) (counts_same f g ks h.1))

bag_counts : (bag : List ℕ) → length bag ≡ 7 → map (count_in bag) hand_kinds ≡ bag
bag_counts [] h = absurd (omega (arith, h))
bag_counts (a ∷ []) h = absurd (omega (arith, h))
bag_counts (a ∷ b ∷ []) h = absurd (omega (arith, h))
bag_counts (a ∷ b ∷ c ∷ []) h = absurd (omega (arith, h))
bag_counts (a ∷ b ∷ c ∷ d ∷ []) h = absurd (omega (arith, h))
bag_counts (a ∷ b ∷ c ∷ d ∷ e ∷ []) h = absurd (omega (arith, h))
bag_counts (a ∷ b ∷ c ∷ d ∷ e ∷ f ∷ []) h = absurd (omega (arith, h))
bag_counts (a ∷ b ∷ c ∷ d ∷ e ∷ f ∷ g ∷ []) h = refl
bag_counts (a ∷ b ∷ c ∷ d ∷ e ∷ f ∷ g ∷ x ∷ xs) h = absurd (omega (arith, h))

-- the ranks, and what both hands hold
abbrev all_placed : Placed → List Placing
all_placed p = placings (rank_items p.material.board) ++ (held_pairs Black p.material.black hand_order ++ held_pairs White p.material.white hand_order)

placings_joined : (xs ys : List Saying) → placings (xs ++ ys) ≡ placings xs ++ placings ys
placings_joined xs ys = flat_joined placings_of xs ys

all_is : (p : Placed) → placings (rank_items p.material.board ++ (hand_items Black p.material.black ++ hand_items White p.material.white)) ≡ all_placed p
all_is p =
    placings_joined (rank_items p.material.board) (hand_items Black p.material.black ++ hand_items White p.material.white)
    ∙ ap (λ ps. placings (rank_items p.material.board) ++ ps)
    (placings_joined (hand_items Black p.material.black) (hand_items White p.material.white)
    ∙ (ap (λ ps. ps ++ placings (hand_items White p.material.white)) (hand_placed Black p.material.black) ∙ ap (λ ps. held_pairs Black p.material.black hand_order ++ ps) (hand_placed White p.material.white)))

order_held : AllByRecursion (λ k. kinds.is_hand_kind k ≡ true) hand_order
order_held = (refl, (refl, (refl, (refl, (refl, (refl, (refl, tt)))))))

all_plain : (p : Placed) → AllByRecursion IsPlain (all_placed p)
all_plain p =
    all_joined IsPlain (placings (rank_items p.material.board)) (held_pairs Black p.material.black hand_order ++ held_pairs White p.material.white hand_order)
    (on_plain (placings (rank_items p.material.board)) (ranks_on p.material.board (1 ∷ 2 ∷ 3 ∷ 4 ∷ 5 ∷ 6 ∷ 7 ∷ 8 ∷ 9 ∷ [])))
    (all_joined IsPlain (held_pairs Black p.material.black hand_order) (held_pairs White p.material.white hand_order)
    (held_plain Black p.material.black hand_order order_held) (held_plain White p.material.white hand_order order_held))

all_put : (p : Placed) (n : ℕ) → n < 81 → filter_map (put_on n) (all_placed p) ≡ option_to_list (get_or p.material.board n None)
all_put p n less =
    filter_map-append (put_on n) (placings (rank_items p.material.board)) (held_pairs Black p.material.black hand_order ++ held_pairs White p.material.white hand_order)
    ∙ (ap (λ ps. filter_map (put_on n) (placings (rank_items p.material.board)) ++ ps)
    (filter_map-append (put_on n) (held_pairs Black p.material.black hand_order) (held_pairs White p.material.white hand_order)
    ∙ (ap (λ ps. ps ++ filter_map (put_on n) (held_pairs White p.material.white hand_order)) (held_not_put n Black p.material.black hand_order) ∙ held_not_put n White p.material.white hand_order))
    ∙ (append-nil (filter_map (put_on n) (placings (rank_items p.material.board))) ∙ ranks_cell p.material.board n less))

-- how many of a kind a side has
held_of_all : (p : Placed) (c : Color) (k : Kind) → length (filter (is_held c k) (all_placed p)) ≡ tally Black c k p.material.black hand_order + tally White c k p.material.white hand_order
held_of_all p c k =
    let first = filter-append (is_held c k) (placings (rank_items p.material.board)) (held_pairs Black p.material.black hand_order ++ held_pairs White p.material.white hand_order) in
    let none = on_not_held c k (placings (rank_items p.material.board)) (ranks_on p.material.board (1 ∷ 2 ∷ 3 ∷ 4 ∷ 5 ∷ 6 ∷ 7 ∷ 8 ∷ 9 ∷ [])) in
    let second = filter-append (is_held c k) (held_pairs Black p.material.black hand_order) (held_pairs White p.material.white hand_order) in
    ap length (first ∙ (ap (λ ps. ps ++ filter (is_held c k) (held_pairs Black p.material.black hand_order ++ held_pairs White p.material.white hand_order)) none ∙ second))
    ∙ (length-append (filter (is_held c k) (held_pairs Black p.material.black hand_order)) (filter (is_held c k) (held_pairs White p.material.white hand_order))
    ∙ (ap (λ n. n + length (filter (is_held c k) (held_pairs White p.material.white hand_order))) (tallied Black c k p.material.black hand_order)
    ∙ ap (λ n. tally Black c k p.material.black hand_order + n) (tallied White c k p.material.white hand_order)))

black_all : (p : Placed) (ks : List Kind) → AllByRecursion (λ k. tally Black Black k p.material.black hand_order ≡ count_in p.material.black k) ks → AllByRecursion (λ k. length (filter (is_held Black k) (all_placed p)) ≡ count_in p.material.black k) ks
black_all p [] h = tt
black_all p (k ∷ ks) h = (omega (arith, held_of_all p Black k, h.0, other_tally White Black k p.material.white hand_order refl), black_all p ks h.1)

white_all : (p : Placed) (ks : List Kind) → AllByRecursion (λ k. tally White White k p.material.white hand_order ≡ count_in p.material.white k) ks → AllByRecursion (λ k. length (filter (is_held White k) (all_placed p)) ≡ count_in p.material.white k) ks
white_all p [] h = tt
white_all p (k ∷ ks) h = (omega (arith, held_of_all p White k, h.0, other_tally Black White k p.material.black hand_order refl), white_all p ks h.1)

black_bag : (p : Placed) → length p.material.black ≡ 7 → p.material.black ≡ bag_given Black (all_placed p)
black_bag p seven =
    sym (counts_same (λ k. length (filter (is_held Black k) (all_placed p))) (count_in p.material.black) hand_kinds (black_all p hand_kinds (own_tally Black p.material.black)) ∙ bag_counts p.material.black seven)

white_bag : (p : Placed) → length p.material.white ≡ 7 → p.material.white ≡ bag_given White (all_placed p)
white_bag p seven =
    sym (counts_same (λ k. length (filter (is_held White k) (all_placed p))) (count_in p.material.white) hand_kinds (white_all p hand_kinds (own_tally White p.material.white)) ∙ bag_counts p.material.white seven)

abbrev nothing : Option Piece
nothing = None

no_cell : (n : ℕ) (k : ℕ) → get_or (replicate k nothing) n None ≡ None
no_cell n zero = refl
no_cell zero (suc k) = refl
no_cell (suc n) (suc k) = no_cell n k

ranks_union : (p : Placed) → length p.material.board ≡ 81 → length p.material.black ≡ 7 → length p.material.white ≡ 7 → IsUnion no_cells (all_placed p) (layout_of p)
ranks_union p squares black white = record {
  squares = squares;
  cells = λ n less. rw (none_off n (all_placed p) (all_plain p), all_put p n less, no_cell n 81) refl;
  taken = λ n. rw (none_off n (all_placed p) (all_plain p)) tt;
  held = may_be_held (all_placed p) (all_plain p);
  black = black_bag p black;
  white = white_bag p white;
  no_rest = refl;
  rest_last = rest_last (all_placed p) (all_plain p);
}

pub ranks_give : (p : Placed) → length p.material.board ≡ 81 → length p.material.black ≡ 7 → length p.material.white ≡ 7 → GiveStart (rank_items p.material.board ++ (hand_items Black p.material.black ++ hand_items White p.material.white)) p
ranks_give p squares black white = record {
  layout = layout_of p;
  union = rw (all_is p) (ranks_union p squares black white);
  start_is = rw (all_is p, none_given (all_placed p) (all_plain p)) refl;
}
