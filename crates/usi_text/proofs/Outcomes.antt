-- What a text's pieces give when they are placed one after another: a layout that holds just them,
-- or the refusal of the first that is more than a game has.
use Rattle.std.proofs.Common.{◌≡◌, ℕ, ◌+◌, ◌<◌, ◌≤◌, ◌==◌, ◌&&◌, nat_lt, nat_le, ◌⊎◌, inl, inr, Bool, true, false, not, cond, List, [], ◌∷◌, ◌++◌, Option, Some, None, Result, Ok, Err, length, get_or, count_by, replicate, arith, refl, sym, ap, ◌∙◌, subst, append_assoc}
use Rattle.std.specs.List.{AllByRecursion, flat_map}
use Rattle.std.proofs.lemmas.Bool.Decides.{eqb_tells}
use Rattle.std.proofs.lemmas.Grind.{get_or-set_at}
use Rattle.std.proofs.lemmas.List.{append-nil, get_or-set_other, length-set}
use Rattle.shogi_board.specs.declared.color.Color.{Color}
use Rattle.shogi_board.specs.declared.color.Color.TheVariants.{Black, White}
use Rattle.shogi_board.specs.declared.kind.Kind.{Kind}
use Rattle.shogi_board.specs.declared.kind.Piece.{Piece}
use Rattle.shogi_board.specs.declared.setup.SetupFault.{SetupFault}
use Rattle.shogi_board.specs.declared.setup.SetupFault.TheVariants.{TooMany, SecondKing, NotForHand, OpponentInCheck, AfterRest}
use Rattle.shogi_board.specs.Layout.{Layout}
use Rattle.shogi_board.specs.Material.{Material, bag_of, with_bag}
use Rattle.shogi_board.specs.Pieces.{is_hand_kind, is_king, place_of, same_color}
use Rattle.shogi_board.specs.Placed.{Placed}
use Rattle.shogi_board.specs.Placing.{unless}
use Rattle.shogi_board.specs.Setup.{empty_layout, first_fault, is_full, add_fault, one_more, position_of}
use Rattle.shogi_board.specs.Sound.{IsSound}
use Rattle.shogi_board.specs.Totals.{total, limit, count_in, is_of, kings_of, IsWithinTotals}
use Rattle.shogi_board.proofs.Forms.{held-no-king, held-low}
use Rattle.shogi_rules.proofs.Layouts.{put-total}
use Rattle.usi_text.specs.Contents.{cell_pieces, text_pieces, kind_total, king_total, IsWithinGame, FirstExcess}
use Rattle.usi_text.specs.Hands.{Pile, pile_pieces}
use Rattle.usi_text.specs.Setting.{board_place, set_up, Finishes}
use Rattle.usi_text.specs.Sfen.{Shape, Sfen, FirstFault}
use Rattle.usi_text.specs.Words.{nth_word}
use Rattle.usi_text.specs.declared.fault.SfenFault.TheVariants.{Start}
use Rattle.usi_text.proofs.Counted.{count_there, nothing_more, held_size}
use Rattle.usi_text.proofs.Filled.{no_pieces_at, put-kings}
use Rattle.usi_text.proofs.Setups.{more_fault, put, put_cells, held, hold_pieces, hold_after, place_bound, places_apart, none_there, set_up_is, board_size}
use Rattle.usi_text.proofs.SfenOnce.{ranks_once, hands_once}
use Rattle.usi_text.proofs.Standing.{hand_board}
use Rattle.usi_text.proofs.StartFaults.{InHand, hands_held}
use Rattle.usi_text.proofs.Tallies.{kind_more, king_more, next_fault, first_of, refusal, refusal_joined, first_excess, within_game, refused}

abbrev Cells : Type 0
Cells = List (Option Piece)

abbrev Pieces : Type 0
Pieces = List Piece

abbrev nothing : Option Piece
nothing = None

-- what a layout holds is what was placed
pub record Holds (s : Layout) (ps : Pieces) : Type 0 where
  pub free : s.rest_given ≡ false
  pub squares : length s.material.board ≡ 81
  pub bags : (c : Color) → length (bag_of s.material c) ≡ 7
  pub totals : (k : Kind) → total s.material k ≡ kind_total k ps
  pub kings : (c : Color) → kings_of s.material.board c ≡ king_total c ps

start_bags : (c : Color) → length (bag_of empty_layout.material c) ≡ 7
start_bags Black = refl
start_bags White = refl

none_counted : (k : Kind) → count_by (is_of k) (replicate 81 nothing) ≡ 0
none_counted k = refl

start_total : (k : Kind) → total empty_layout.material k ≡ 0
start_total k = let e = no_pieces_at k in let none = none_counted k in omega (arith, e, none)

start_holds : Holds empty_layout []
start_holds = record { free = refl; squares = refl; bags = start_bags; totals = start_total; kings = λ c. refl }

put_bags : (s : Layout) (n : ℕ) (p : Piece) (c : Color) → length (bag_of s.material c) ≡ 7 → length (bag_of (put s n p).material c) ≡ 7
put_bags s n p Black h = h
put_bags s n p White h = h

put_holds : (s : Layout) (ps : Pieces) (n : ℕ) (p : Piece) → Holds s ps → n < 81 → get_or s.material.board (board_place n) nothing ≡ nothing → Holds (put s n p) (ps ++ p ∷ [])
put_holds s ps n p h low empty =
    let at : board_place n < length s.material.board = let b = place_bound n low in let z = h.squares in omega arith in
    record {
      free = h.free;
      squares = length-set s.material.board (board_place n) (Some p) ∙ h.squares;
      bags = λ c. put_bags s n p c (h.bags c);
      totals = λ k.
          put-total s.material (board_place n) p.color p.kind k at empty
          ∙ (ap (λ x. x + cond (place_of p.kind == place_of k) 1 0) (h.totals k) ∙ sym (kind_more k ps p));
      kings = λ c.
          put-kings s.material.board (board_place n) p c at empty
          ∙ (ap (λ x. x + cond (same_color p.color c && is_king p.kind) 1 0) (h.kings c) ∙ sym (king_more c ps p));
    }

hand_at : (bag : List ℕ) (kind k : Kind) → length bag ≡ 7 → is_hand_kind kind ≡ true → get_or (one_more bag kind) (place_of k) 0 ≡ get_or bag (place_of k) 0 + cond (place_of kind == place_of k) 1 0
hand_at bag kind k size h =
    let low = held-low kind h in
    elim (eqb_tells (place_of kind) (place_of k)) [
      | inl same ↦
          let here = get_or-set_at bag (place_of kind) (place_of k) (count_in bag kind + 1) 0 (sym same.1) (omega arith) in
          let old = count_there bag kind h ∙ ap (λ i. get_or bag i 0) same.1 in
          here ∙ (ap (λ n. n + 1) old ∙ ap (λ b. get_or bag (place_of k) 0 + cond b 1 0) (sym same.0))
      | inr other ↦
          let there = get_or-set_other bag (place_of kind) (place_of k) (count_in bag kind + 1) 0 (λ e. other.1 (sym e)) in
          there ∙ (nothing_more (get_or bag (place_of k) 0) ∙ ap (λ b. get_or bag (place_of k) 0 + cond b 1 0) (sym other.0))
    ]

black_last : (a b c d : ℕ) → a + (b + c) + d ≡ a + b + d + c
black_last a b c d = omega arith

white_last : (a b c d : ℕ) → a + b + (c + d) ≡ a + b + c + d
white_last a b c d = omega arith

-- one more of a kind in a hand
pub hand_total : (m : Material) (c : Color) (kind k : Kind) → length (bag_of m c) ≡ 7 → is_hand_kind kind ≡ true → total (with_bag m c (one_more (bag_of m c) kind)) k ≡ total m k + cond (place_of kind == place_of k) 1 0
hand_total m Black kind k size h =
    ap (λ x. count_by (is_of k) m.board + x + get_or m.white (place_of k) 0) (hand_at m.black kind k size h) ∙ black_last _ _ _ _
hand_total m White kind k size h =
    ap (λ x. count_by (is_of k) m.board + get_or m.black (place_of k) 0 + x) (hand_at m.white kind k size h) ∙ white_last _ _ _ _

not_both : (a b : Bool) → (b ≡ true → ⊥) → (a && b) ≡ false
not_both true true h = absurd (h refl)
not_both true false h = refl
not_both false b h = refl

not_first : (a b : Bool) → (a ≡ true → ⊥) → (a && b) ≡ false
not_first true b h = absurd (h refl)
not_first false b h = refl

hold_holds : (s : Layout) (ps : Pieces) (p : Piece) → Holds s ps → InHand p → Holds (held s p) (ps ++ p ∷ [])
hold_holds s ps p h hand =
    let same = hand_board s.material p.color (one_more (bag_of s.material p.color) p.kind) in
    record {
      free = h.free;
      squares = ap length same ∙ h.squares;
      bags = λ c. held_size s p.color c p.kind (h.bags c);
      totals = λ k.
          hand_total s.material p.color p.kind k (h.bags p.color) hand
          ∙ (ap (λ x. x + cond (place_of p.kind == place_of k) 1 0) (h.totals k) ∙ sym (kind_more k ps p));
      kings = λ c.
          let none = not_both (same_color p.color c) (is_king p.kind) (held-no-king p.kind hand) in
          ap (λ b. kings_of b c) same
          ∙ (h.kings c ∙ (nothing_more (king_total c ps) ∙ (ap (λ b. king_total c ps + cond b 1 0) (sym none) ∙ sym (king_more c ps p))));
    }

more_is : (s : Layout) (ps : Pieces) (p : Piece) → Holds s ps → more_fault s p ≡ next_fault ps p
more_is s ps p h =
    ap (λ n. first_fault ((SecondKing, is_king p.kind && nat_lt 0 n) ∷ (TooMany, is_full s p.kind) ∷ [])) (h.kings p.color)
    ∙ ap (λ n. first_fault ((SecondKing, is_king p.kind && nat_lt 0 (king_total p.color ps)) ∷ (TooMany, nat_le (limit p.kind) n) ∷ [])) (h.totals p.kind)

add_is : (s : Layout) (ps : Pieces) (p : Piece) → Holds s ps → InHand p → add_fault s p.kind ≡ next_fault ps p
add_is s ps p h hand =
    let full = is_full s p.kind in
    let held : not (is_hand_kind p.kind) ≡ false = ap not hand in
    let none = not_first (is_king p.kind) (nat_lt 0 (king_total p.color ps)) (held-no-king p.kind hand) in
    ap (λ b. first_fault ((AfterRest, b) ∷ (NotForHand, not (is_hand_kind p.kind)) ∷ (TooMany, full) ∷ [])) h.free
    ∙ (ap (λ b. first_fault ((AfterRest, false) ∷ (NotForHand, b) ∷ (TooMany, full) ∷ [])) held
    ∙ (ap (λ n. first_fault ((TooMany, nat_le (limit p.kind) n) ∷ [])) (h.totals p.kind)
    ∙ ap (λ b. first_fault ((SecondKing, b) ∷ (TooMany, nat_le (limit p.kind) (kind_total p.kind ps)) ∷ [])) (sym none)))

-- a layout that holds the pieces, or why they are refused
abbrev pub Outcome : Result Layout SetupFault → Pieces → Option SetupFault → Type 0
Outcome (Ok s) ps why = Holds s ps × (why ≡ None)
Outcome (Err f) ps why = why ≡ Some f

step_out : (here : Option SetupFault) (r : Result Layout SetupFault) (ps qs : Pieces) (why : Option SetupFault) → ps ≡ qs → Outcome r ps why → Outcome (unless here r) qs (first_of here why)
step_out None r ps qs why e o = subst (λ x. Outcome r x why) e o
step_out (Some f) r ps qs why e o = refl

puts : (cells : Cells) (s : Layout) (n : ℕ) (ps : Pieces) → Holds s ps → ((m : ℕ) → n ≤ m → m < 81 → get_or s.material.board (board_place m) nothing ≡ nothing) → n + length cells ≤ 81
    → Outcome (put_cells s n cells) (ps ++ cell_pieces cells) (refusal ps (cell_pieces cells))
puts [] s n ps h empty few = (subst (Holds s) (sym (append-nil ps)) h, refl)
puts (None ∷ cells) s n ps h empty few = puts cells s (n + 1) ps h (λ m low high. empty m (omega arith) high) (omega arith)
puts (Some p ∷ cells) s n ps h empty few =
    let bare = empty n (omega arith) (omega arith) in
    let still : (m : ℕ) → n + 1 ≤ m → m < 81 → get_or (put s n p).material.board (board_place m) nothing ≡ nothing = λ m low high.
    get_or-set_other s.material.board (board_place n) (board_place m) (Some p) None (places_apart m n high (omega arith) (omega arith)) ∙ empty m (omega arith) high in
    let next = put s n p in
    let later = cell_pieces cells in
    let more = puts cells next (n + 1) (ps ++ p ∷ []) (put_holds s ps n p h (omega arith) bare) still (omega arith) in
    let out = step_out (next_fault ps p) (put_cells next (n + 1) cells) _ (ps ++ p ∷ later) (refusal (ps ++ p ∷ []) later) (append_assoc ps (p ∷ []) later) more in
    subst (λ f. Outcome (unless f (put_cells next (n + 1) cells)) (ps ++ p ∷ later) (first_of (next_fault ps p) (refusal (ps ++ p ∷ []) later))) (sym (more_is s ps p h)) out

holds : (qs : Pieces) (s : Layout) (ps : Pieces) → Holds s ps → AllByRecursion InHand qs → Outcome (hold_pieces s qs) (ps ++ qs) (refusal ps qs)
holds [] s ps h all = (subst (Holds s) (sym (append-nil ps)) h, refl)
holds (q ∷ qs) s ps h all =
    let next = held s q in
    let more = holds qs next (ps ++ q ∷ []) (hold_holds s ps q h all.0) all.1 in
    let out = step_out (next_fault ps q) (hold_pieces next qs) _ (ps ++ q ∷ qs) (refusal (ps ++ q ∷ []) qs) (append_assoc ps (q ∷ []) qs) more in
    subst (λ f. Outcome (unless f (hold_pieces next qs)) (ps ++ q ∷ qs) (first_of (next_fault ps q) (refusal (ps ++ q ∷ []) qs))) (sym (add_is s ps q h all.0)) out

after_out : (r : Result Layout SetupFault) (xs ys : Pieces) → AllByRecursion InHand ys → Outcome r xs (refusal [] xs) → Outcome (hold_after r ys) (xs ++ ys) (refusal [] (xs ++ ys))
after_out (Ok s) xs ys all o =
    let h = holds ys s xs o.0 all in
    let e = refusal_joined [] xs ys ∙ ap (λ here. first_of here (refusal xs ys)) o.1 in
    subst (λ why. Outcome (hold_pieces s ys) (xs ++ ys) why) (sym e) h
after_out (Err f) xs ys all o = refusal_joined [] xs ys ∙ ap (λ here. first_of here (refusal xs ys)) o

all_out : (cells : Cells) (piles : List Pile) → length cells ≡ 81 → AllByRecursion InHand (flat_map pile_pieces piles) → Outcome (set_up cells piles) (text_pieces cells piles) (refusal [] (text_pieces cells piles))
all_out cells piles size all =
    let ps = flat_map pile_pieces piles in
    let board = puts cells empty_layout 0 [] start_holds (λ m low high. none_there 81 (board_place m)) (omega (arith, size)) in
    subst (λ r. Outcome r (text_pieces cells piles) (refusal [] (text_pieces cells piles))) (sym (set_up_is cells piles size)) (after_out (put_cells empty_layout 0 cells) (cell_pieces cells) ps all board)

shape_out : (ws : List (List ℕ)) (cells : Cells) (side : Color) (piles : List Pile) → Shape ws cells side piles → Outcome (set_up cells piles) (text_pieces cells piles) (refusal [] (text_pieces cells piles))
shape_out ws cells side piles shape =
    all_out cells piles (board_size (nth_word ws 0) cells shape.board) (hands_held (nth_word ws 2) piles shape.hands)

is_refused : (r : Result Layout SetupFault) (ps : Pieces) (f : SetupFault) → Outcome r ps (refusal [] ps) → refusal [] ps ≡ Some f → r ≡ Err f
is_refused (Ok s) ps f o e = let d = sym o.1 ∙ e in cc
is_refused (Err g) ps f o e = let d : Some g ≡ Some f = sym o ∙ e in cc

pub excess_refused : (ws : List (List ℕ)) (cells : Cells) (side : Color) (piles : List Pile) (f : SetupFault) → Shape ws cells side piles → FirstExcess (text_pieces cells piles) f → FirstFault ws (Start f)
excess_refused ws cells side piles f shape x =
    let ps = text_pieces cells piles in
    let e = is_refused (set_up cells piles) ps f (shape_out ws cells side piles shape) (refused ps f x) in
    (cells, side, piles, shape, subst (λ r. Finishes r side (Err f)) (sym e) refl)

why_refused : (r : Result Layout SetupFault) (side : Color) (ps : Pieces) (f : SetupFault) → Outcome r ps (refusal [] ps) → Finishes r side (Err f) → (f ≡ OpponentInCheck) ⊎ FirstExcess ps f
why_refused (Ok s) side ps f o h = inl h.1
why_refused (Err g) side ps f o h = let same : g ≡ f = cc in inr (first_excess ps f (o ∙ ap Some same))

pub only_excess : (ws : List (List ℕ)) (cells : Cells) (side : Color) (piles : List Pile) (f : SetupFault) → Shape ws cells side piles → FirstFault ws (Start f) → (f ≡ OpponentInCheck) ⊎ FirstExcess (text_pieces cells piles) f
only_excess ws cells side piles f shape (c, s, ps, other, stands) =
    let e : c ≡ cells = ranks_once _ c cells other.board.1 shape.board.1 in
    let d : ps ≡ piles = hands_once (nth_word ws 2) ps piles other.hands shape.hands in
    let here = subst (λ x. Finishes (set_up cells x) s (Err f)) d (subst (λ x. Finishes (set_up x ps) s (Err f)) e stands) in
    why_refused (set_up cells piles) s (text_pieces cells piles) f (shape_out ws cells side piles shape) here

held_within : (s : Layout) (ps : Pieces) → Holds s ps → IsWithinGame ps → IsWithinTotals s.material
held_within s ps h w = record {
  squares = h.squares;
  black_kinds = h.bags Black;
  white_kinds = h.bags White;
  totals = λ k. subst (λ n. n ≤ limit k) (sym (h.totals k)) (w.totals k);
  kings = λ c. subst (λ n. n ≤ 1) (sym (h.kings c)) (w.kings c);
}

finished_sound : (r : Result Layout SetupFault) (side : Color) (p : Placed) (ps : Pieces) → Outcome r ps (refusal [] ps) → Finishes r side (Ok p) → IsSound p
finished_sound (Ok s) side p ps o h =
    let sound : IsSound (position_of s side) = record { within = held_within s ps o.0 (within_game ps o.1); safe = h.0 } in
    subst IsSound (sym h.1) sound
finished_sound (Err f) side p ps o h = cc

pub sound : (ws : List (List ℕ)) (p : Placed) → Sfen ws p → IsSound p
sound ws p s =
    finished_sound (set_up s.cells s.piles) p.side p (text_pieces s.cells s.piles) (shape_out ws s.cells p.side s.piles s.shape) s.stands
