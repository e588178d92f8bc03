-- The position statements of a canonical text.
use Rattle.std.proofs.Common.{◌≡◌, ◌⊎◌, ℕ, zero, suc, ◌+◌, ◌<◌, ◌≤◌, ◌==◌, true, false, List, [], ◌∷◌, ◌++◌, length, filter, refl, sym, ap, ◌∙◌, subst, arith, inl, inr}
use Rattle.std.specs.Prelude.{replicate, drop}
use Rattle.std.specs.List.{AllByRecursion, flat_map}
use Rattle.std.proofs.lemmas.Bool.{cases_Bool, ne_eqb, eqb-true}
use Rattle.std.proofs.lemmas.List.{length-append}
use Rattle.std.proofs.lemmas.List.Elements.{filter_map-append}
use Rattle.shogi_board.specs.declared.color.Color.{Color}
use Rattle.shogi_board.specs.declared.color.Color.TheVariants.{Black, White}
use Rattle.shogi_board.specs.declared.kind.Kind.{Kind}
use Rattle.shogi_board.specs.declared.kind.Kind.TheVariants.{Pawn, Lance, Knight, Silver, Gold, Bishop, Rook}
use Rattle.shogi_board.specs.Cells.{even_cells}
use Rattle.shogi_board.specs.Placed.{Placed}
use Rattle.shogi_board.specs.Totals.{IsWithinTotals, count_in}
use Rattle.csa_text.specs.declared.pair.Pair.{Pair}
use Rattle.csa_text.specs.declared.pair.Pair.TheVariants.{InHand}
use Rattle.csa_text.specs.Saying.{Saying, even, rank}
use Rattle.record_game.specs.Items.{is_even, is_position, rank_given, ranks, AtMostOne}
use Rattle.record_game.specs.Says.{RanksOnce}
use Rattle.record_game.specs.Union.{GiveStart}
use Rattle.record_game.specs.Canon.{is_from_even, missing, rank_cells, rank_items, hand_pairs, pairs_items, hand_items, no_items, start_items}
use Rattle.record_game.proofs.Bytes.{all_joined}
use Rattle.record_game.proofs.Filtered.{ArePositions, none_of}
use Rattle.record_game.proofs.FromEven.{even_gives, even_item}
use Rattle.record_game.proofs.Hands.{ranks_give, hand_order}
use Rattle.record_game.proofs.ItemLines.{rank_line, pieces_line}
use Rattle.record_game.proofs.Lined.{IsItemLine}
use Rattle.record_game.proofs.Pieces.{and_left, and_right}

-- position statements that give a start, and have their lines
pub record IsStart (ss : List Saying) (p : Placed) : Type 0 where
  pub positions : ArePositions ss
  pub lines : AllByRecursion IsItemLine ss
  pub even_first : filter is_even (drop 1 ss) ≡ []
  pub even_or_ranks : (filter is_even ss ≡ []) ⊎ (ranks ss ≡ [])
  pub ranks_once : RanksOnce ss
  pub gives : GiveStart ss p

-- empty hands
empty_pairs : (c : Color) (ps : List Pair) → no_items (pairs_items c ps) ≡ true → ps ≡ []
empty_pairs c [] h = refl
empty_pairs c (p ∷ ps) h = cc

no_first : (xs ys : List Saying) → no_items (xs ++ ys) ≡ true → no_items xs ≡ true
no_first [] ys h = refl
no_first (x ∷ xs) ys h = cc

no_second : (xs ys : List Saying) → no_items (xs ++ ys) ≡ true → no_items ys ≡ true
no_second [] ys h = h
no_second (x ∷ xs) ys h = cc

none_many : (m : ℕ) (k : Kind) (ps : List Pair) → replicate m (InHand k) ++ ps ≡ [] → (m ≡ 0) × (ps ≡ [])
none_many zero k ps h = (refl, h)
none_many (suc m) k ps h = cc

empty_bag : (bag : List ℕ) → length bag ≡ 7 → hand_pairs bag ≡ [] → bag ≡ 0 ∷ 0 ∷ 0 ∷ 0 ∷ 0 ∷ 0 ∷ 0 ∷ []
empty_bag [] h e = absurd (omega (arith, h))
empty_bag (a ∷ []) h e = absurd (omega (arith, h))
empty_bag (a ∷ b ∷ []) h e = absurd (omega (arith, h))
empty_bag (a ∷ b ∷ c ∷ []) h e = absurd (omega (arith, h))
empty_bag (a ∷ b ∷ c ∷ d ∷ []) h e = absurd (omega (arith, h))
empty_bag (a ∷ b ∷ c ∷ d ∷ k ∷ []) h e = absurd (omega (arith, h))
empty_bag (a ∷ b ∷ c ∷ d ∷ k ∷ f ∷ []) h e = absurd (omega (arith, h))
empty_bag (a ∷ b ∷ c ∷ d ∷ k ∷ f ∷ g ∷ []) h e =
    let rooks = none_many g Rook _ e in
    let bishops = none_many f Bishop _ rooks.1 in
    let golds = none_many k Gold _ bishops.1 in
    let silvers = none_many d Silver _ golds.1 in
    let knights = none_many c Knight _ silvers.1 in
    let lances = none_many b Lance _ knights.1 in
    let pawns = none_many a Pawn [] lances.1 in
    rw (rooks.0, bishops.0, golds.0, silvers.0, knights.0, lances.0, pawns.0) refl
empty_bag (a ∷ b ∷ c ∷ d ∷ k ∷ f ∷ g ∷ x ∷ xs) h e = absurd (omega (arith, h))

from_even : (p : Placed) → IsWithinTotals p.material → is_from_even p ≡ true → IsStart (even (missing 0 even_cells p.material.board) ∷ []) p
from_even p within h =
    let hands : no_items (hand_items Black p.material.black ++ hand_items White p.material.white) ≡ true = and_left _ _ h in
    let black = empty_bag p.material.black within.black_kinds (empty_pairs Black (hand_pairs p.material.black) (no_first (hand_items Black p.material.black) (hand_items White p.material.white) hands)) in
    let white = empty_bag p.material.white within.white_kinds (empty_pairs White (hand_pairs p.material.white) (no_second (hand_items Black p.material.black) (hand_items White p.material.white) hands)) in
    record {
      positions = (refl, tt);
      lines = (even_item p, tt);
      even_first = refl;
      even_or_ranks = inr refl;
      ranks_once = λ number. tt;
      gives = even_gives p within.squares (and_right _ _ h) black white;
    }

-- pieces of a hand
hand_positions : (c : Color) (ps : List Pair) → ArePositions (pairs_items c ps)
hand_positions c [] = tt
hand_positions c (p ∷ ps) = (refl, tt)

hand_not_even : (c : Color) (ps : List Pair) → AllByRecursion (λ s. is_even s ≡ false) (pairs_items c ps)
hand_not_even c [] = tt
hand_not_even c (p ∷ ps) = (refl, tt)

hand_no_rank : (c : Color) (ps : List Pair) → ranks (pairs_items c ps) ≡ []
hand_no_rank c [] = refl
hand_no_rank c (p ∷ ps) = refl

hand_lines : (c : Color) (ps : List Pair) → length ps ≤ 1000 → AllByRecursion IsItemLine (pairs_items c ps)
hand_lines c [] few = tt
hand_lines c (p ∷ ps) few = (pieces_line c (p ∷ ps) few, tt)

pairs_more : (bag : List ℕ) (k : Kind) (ks : List Kind) (m n : ℕ) → count_in bag k ≤ m → length (flat_map (λ j. replicate (count_in bag j) (InHand j)) ks) ≤ n → length (flat_map (λ j. replicate (count_in bag j) (InHand j)) (k ∷ ks)) ≤ m + n
pairs_more bag k ks m n h few = omega (arith, h, few, length-append (replicate (count_in bag k) (InHand k)) (flat_map (λ j. replicate (count_in bag j) (InHand j)) ks), many (count_in bag k))
  where
    many : (c : ℕ) → length (replicate c (InHand k)) ≡ c
    many zero = refl
    many (suc c) = omega (arith, many c)

-- a hand holds at most 38 pieces
few_pairs : (bag : List ℕ) → AllByRecursion (λ k. count_in bag k ≤ 18) hand_order → length (hand_pairs bag) ≤ 1000
few_pairs bag h =
    let none : length (flat_map (λ j. replicate (count_in bag j) (InHand j)) []) ≤ 0 = omega arith in
    let a = pairs_more bag Pawn [] 18 0 h.1.1.1.1.1.1.0 none in
    let b = pairs_more bag Lance (Pawn ∷ []) 18 18 h.1.1.1.1.1.0 a in
    let c = pairs_more bag Knight (Lance ∷ Pawn ∷ []) 18 36 h.1.1.1.1.0 b in
    let d = pairs_more bag Silver (Knight ∷ Lance ∷ Pawn ∷ []) 18 54 h.1.1.1.0 c in
    let e = pairs_more bag Gold (Silver ∷ Knight ∷ Lance ∷ Pawn ∷ []) 18 72 h.1.1.0 d in
    let f = pairs_more bag Bishop (Gold ∷ Silver ∷ Knight ∷ Lance ∷ Pawn ∷ []) 18 90 h.1.0 e in
    let g = pairs_more bag Rook (Bishop ∷ Gold ∷ Silver ∷ Knight ∷ Lance ∷ Pawn ∷ []) 18 108 h.0 f in
    omega (arith, g)

black_few : (p : Placed) → IsWithinTotals p.material → AllByRecursion (λ k. count_in p.material.black k ≤ 18) hand_order
black_few p w = (
  omega (arith, w.totals Rook),
  (
    omega (arith, w.totals Bishop),
    (
      omega (arith, w.totals Gold),
      (
        omega (arith, w.totals Silver),
        (omega (arith, w.totals Knight), (omega (arith, w.totals Lance), (omega (arith, w.totals Pawn), tt))),
      ),
    ),
  ),
)

white_few : (p : Placed) → IsWithinTotals p.material → AllByRecursion (λ k. count_in p.material.white k ≤ 18) hand_order
white_few p w = (
  omega (arith, w.totals Rook),
  (
    omega (arith, w.totals Bishop),
    (
      omega (arith, w.totals Gold),
      (
        omega (arith, w.totals Silver),
        (omega (arith, w.totals Knight), (omega (arith, w.totals Lance), (omega (arith, w.totals Pawn), tt))),
      ),
    ),
  ),
)

-- no number occurs twice among consecutive ones
abbrev count_up : ℕ → ℕ → List ℕ
count_up m zero = []
count_up m (suc k) = m ∷ count_up (m + 1) k

none_below : (n m k : ℕ) → n < m → filter (λ x. x == n) (count_up m k) ≡ []
none_below n m zero h = refl
none_below n m (suc k) h = rw (ne_eqb m n (λ e. omega (arith, e, h))) (none_below n (m + 1) k (omega (arith, h)))

at_most : (n m k : ℕ) → AtMostOne (filter (λ x. x == n) (count_up m k))
at_most n m zero = tt
at_most n m (suc k) =
    elim (cases_Bool (m == n)) [
      | inl hit ↦
          let is : m ≡ n = eqb-true m n hit in
          rw (hit, none_below n (m + 1) k (omega (arith, is))) tt
      | inr miss ↦ rw miss (at_most n (m + 1) k)
    ]

ranks_listed : (p : Placed) → ranks (rank_items p.material.board ++ (hand_items Black p.material.black ++ hand_items White p.material.white)) ≡ 1 ∷ 2 ∷ 3 ∷ 4 ∷ 5 ∷ 6 ∷ 7 ∷ 8 ∷ 9 ∷ []
ranks_listed p =
    filter_map-append rank_given (rank_items p.material.board) (hand_items Black p.material.black ++ hand_items White p.material.white)
    ∙ ap (λ ns. 1 ∷ 2 ∷ 3 ∷ 4 ∷ 5 ∷ 6 ∷ 7 ∷ 8 ∷ 9 ∷ ns)
    (filter_map-append rank_given (hand_items Black p.material.black) (hand_items White p.material.white)
    ∙ (ap (λ ns. ns ++ ranks (hand_items White p.material.white)) (hand_no_rank Black (hand_pairs p.material.black)) ∙ hand_no_rank White (hand_pairs p.material.white)))

rank_item : (p : Placed) (n : ℕ) → 1 ≤ n → n ≤ 9 → IsItemLine (rank n (rank_cells p.material.board n))
rank_item p n low high = rank_line n (rank_cells p.material.board n) low high refl

rank_lines : (p : Placed) → AllByRecursion IsItemLine (rank_items p.material.board)
rank_lines p = (
  rank_item p 1 (omega arith) (omega arith),
  (
    rank_item p 2 (omega arith) (omega arith),
    (
      rank_item p 3 (omega arith) (omega arith),
      (
        rank_item p 4 (omega arith) (omega arith),
        (
          rank_item p 5 (omega arith) (omega arith),
          (
            rank_item p 6 (omega arith) (omega arith),
            (rank_item p 7 (omega arith) (omega arith), (rank_item p 8 (omega arith) (omega arith), (rank_item p 9 (omega arith) (omega arith), tt))),
          ),
        ),
      ),
    ),
  ),
)

none_even : (p : Placed) → AllByRecursion (λ s. is_even s ≡ false) (hand_items Black p.material.black ++ hand_items White p.material.white)
none_even p =
    all_joined (λ s. is_even s ≡ false) (hand_items Black p.material.black) (hand_items White p.material.white) (hand_not_even Black (hand_pairs p.material.black)) (hand_not_even White (hand_pairs p.material.white))

by_ranks : (p : Placed) → IsWithinTotals p.material → IsStart (rank_items p.material.board ++ (hand_items Black p.material.black ++ hand_items White p.material.white)) p
by_ranks p within = record {
  positions = all_joined (λ s. is_position s ≡ true) (rank_items p.material.board) (hand_items Black p.material.black ++ hand_items White p.material.white)
      (refl, (refl, (refl, (refl, (refl, (refl, (refl, (refl, (refl, tt)))))))))
      (all_joined (λ s. is_position s ≡ true) (hand_items Black p.material.black) (hand_items White p.material.white) (hand_positions Black (hand_pairs p.material.black)) (hand_positions White (hand_pairs p.material.white)));
  lines = all_joined IsItemLine (rank_items p.material.board) (hand_items Black p.material.black ++ hand_items White p.material.white) (rank_lines p)
      (all_joined IsItemLine (hand_items Black p.material.black) (hand_items White p.material.white)
      (hand_lines Black (hand_pairs p.material.black) (few_pairs p.material.black (black_few p within))) (hand_lines White (hand_pairs p.material.white) (few_pairs p.material.white (white_few p within))));
  even_first = none_of is_even (hand_items Black p.material.black ++ hand_items White p.material.white) (none_even p);
  even_or_ranks = inl (none_of is_even (hand_items Black p.material.black ++ hand_items White p.material.white) (none_even p));
  ranks_once = λ number. subst (λ (ns : List ℕ). AtMostOne (filter (λ n. n == number) ns)) (sym (ranks_listed p)) (at_most number 1 9);
  gives = ranks_give p within.squares within.black_kinds within.white_kinds;
}

pub start_is : (p : Placed) → IsWithinTotals p.material → IsStart (start_items p) p
start_is p within =
    elim (cases_Bool (is_from_even p)) [
      | inl even_one ↦ rw even_one (from_even p within even_one)
      | inr other ↦ rw other (by_ranks p within)
    ]
