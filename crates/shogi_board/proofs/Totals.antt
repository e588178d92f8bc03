-- The totals hold after each change of a setup.
use Rattle.std.proofs.Common.{◌≡◌, ℕ, suc, ◌+◌, ◌-◌, ◌<◌, ◌≤◌, ◌==◌, ◌&&◌, inl, inr, not, length, map, ◌++◌, Bool, true, false, cond, List, [], ◌∷◌, Option, Some, None, nat_eq, nat_le, nat_lt, set, get_or, count_by, slice_index, arith, refl, ap, sym, ◌∙◌, length-set, get_or-set_same, get_or-set_other}
use Rattle.std.proofs.lemmas.List.Sums.{sum_by-set, get_or-le-sum_by}
use Rattle.std.proofs.lemmas.Bool.{and_parts, cases_eq, ne_eqb}
use Rattle.std.proofs.lemmas.Bool.Decides.{Decides-eqb, nat_tests}
use Rattle.shogi_board.specs.Cells.{Cells, at, piece}
use Rattle.shogi_board.specs.Layout.{Layout}
use Rattle.shogi_board.specs.Material.{Material, bag_of, with_bag}
use Rattle.shogi_board.specs.Pieces.{place_of, same_color, is_king, is_hand_kind, unpromoted}
use Rattle.shogi_board.specs.Setup.{holds, with_rest, first_fault, place_fault, add_fault, one_more, one_less, added, take_hand_fault, take_off_fault, taken}
use Rattle.shogi_board.specs.Totals.{total, limit, board_counts, hand_kinds, count_in, is_of, is_king_of, kings_of, IsWithinTotals}
use Rattle.shogi_board.specs.declared.color.Color.{Color}
use Rattle.shogi_board.specs.declared.color.Color.TheVariants.{Black, White}
use Rattle.shogi_board.specs.declared.kind.Kind.{Kind}
use Rattle.shogi_board.specs.declared.kind.Kind.TheVariants.{Pawn, Lance, Knight, Silver, Gold, Bishop, Rook, King}
use Rattle.shogi_board.specs.declared.kind.Piece.{Piece}
use Rattle.shogi_board.specs.declared.setup.SetupFault.TheVariants.{SquareTaken, TooMany, SecondKing, NotForHand, NotThere, AfterRest}
use Rattle.shogi_board.specs.declared.square.Square.{Square}
use Rattle.shogi_board.proofs.Drops.{held-of}
use Rattle.shogi_board.proofs.Forms.{eq-self, held-low}
use Rattle.shogi_board.proofs.Pieces.{unpromoted-place}
use Rattle.shogi_board.proofs.Tests.{nothing}

abbrev limits : List ℕ
limits = 18 ∷ 4 ∷ 4 ∷ 4 ∷ 4 ∷ 2 ∷ 2 ∷ 2 ∷ []

limit-place : (k : Kind) → limit k ≡ slice_index limits (place_of k)
limit-place Pawn = refl
limit-place _ = refl

-- kinds of one place have one limit
pub limit-same : (a b : Kind) → place_of a ≡ place_of b → limit a ≡ limit b
limit-same a b e = limit-place a ∙ ap (slice_index limits) e ∙ sym (limit-place b)

abbrev is_at : ℕ → Option Piece → Bool
is_at n None = false
is_at n (Some p) = place_of p.kind == n

total-place : (m : Material) (k : Kind) → total m k ≡ count_by (is_at (place_of k)) m.board + slice_index m.black (place_of k) + slice_index m.white (place_of k)
total-place m k = refl

-- and one total
pub total-same : (m : Material) (a b : Kind) → place_of a ≡ place_of b → total m a ≡ total m b
total-same m a b e =
    total-place m a
    ∙ ap (λ n. count_by (is_at n) m.board + slice_index m.black n + slice_index m.white n) e
    ∙ sym (total-place m b)

-- one more piece of a kind of which there may be more, in the place of others
few-more : (b : Bool) (new old many gone : ℕ) → new + gone ≡ old + cond b 1 0 → old ≤ many → (b ≡ true → old < many) → new ≤ many
few-more true new old many gone e low h = let k = h refl in omega arith
few-more false new old many gone e low h = omega arith

eq-place : (m n : ℕ) → (m == n) ≡ true → m ≡ n
eq-place m n h = (Decides-eqb m n).0 h

kings-more : (cells : Cells) (color c : Color) (kind : Kind) → (is_king kind ≡ true → kings_of cells color ≡ 0) → same_color color c && is_king kind ≡ true → kings_of cells c < 1
kings-more cells Black Black moved h e = let k = h e in omega arith
kings-more cells Black White moved h e = cc
kings-more cells White Black moved h e = cc
kings-more cells White White moved h e = let k = h e in omega arith

-- a piece on a square, in the place of what stood there
pub placed-within : (m : Material) (color : Color) (kind : Kind) (i : ℕ) → IsWithinTotals m → i < 81 → total m kind < limit kind → (is_king kind ≡ true → kings_of m.board color ≡ 0) → IsWithinTotals (record m { board = set m.board i (piece color kind) })
placed-within m color kind i w low room none = record {
  squares = rw length-set w.squares;
  black_kinds = w.black_kinds;
  white_kinds = w.white_kinds;
  totals = λ k.
      let whole = w.squares in
      let step = sum_by-set (λ x. cond (is_of k x) 1 0) m.board i (piece color kind) None (omega arith) in
      few-more (place_of kind == place_of k) _ (total m k) _ (cond (is_of k (get_or m.board i None)) 1 0) (omega (arith, step)) (w.totals k)
      (λ h. let p : place_of kind ≡ place_of k = eq-place _ _ h in omega (arith, total-same m kind k p, limit-same kind k p, room));
  kings = λ c.
      let whole = w.squares in
      let step = sum_by-set (λ x. cond (is_king_of c x) 1 0) m.board i (piece color kind) None (omega arith) in
      few-more (same_color color c && is_king kind) _ (kings_of m.board c) _ (cond (is_king_of c (get_or m.board i None)) 1 0) (omega (arith, step)) (w.kings c) (kings-more m.board color c kind none);
}

no-fault : (late taken king full : Bool) → first_fault ((AfterRest, late) ∷ (SquareTaken, taken) ∷ (SecondKing, king) ∷ (TooMany, full) ∷ []) ≡ None → (taken ≡ false) × (king ≡ false) × (full ≡ false)
no-fault false false false false h = (refl, refl, refl)
no-fault _ _ _ _ h = absurd (cc)

no-king-test : (b : Bool) (n : ℕ) → (b && nat_lt 0 n) ≡ false → b ≡ true → n ≡ 0
no-king-test true n h e = grind (arith, nat_tests)
no-king-test false n h e = cc

room-test : (n m : ℕ) → nat_le m n ≡ false → n < m
room-test n m h = grind (arith, nat_tests)

-- where a piece may be placed there is room for it, its side has no king if it is one, and the
-- square is empty
pub place-room : (s : Layout) (color : Color) (square : Square) (kind : Kind) → place_fault s color square kind ≡ None → (total s.material kind < limit kind) × (is_king kind ≡ true → kings_of s.material.board color ≡ 0) × (at s.material.board square ≡ None)
place-room s color square kind h =
    let e = no-fault _ _ _ _ h in
    (room-test _ _ e.2, no-king-test (is_king kind) _ e.1, nothing _ _ refl e.0)

-- a square made empty
pub removed-within : (m : Material) (i : ℕ) → IsWithinTotals m → i < 81 → IsWithinTotals (record m { board = set m.board i None })
removed-within m i w low = record {
  squares = rw length-set w.squares;
  black_kinds = w.black_kinds;
  white_kinds = w.white_kinds;
  totals = λ k.
      let whole = w.squares in
      let step = sum_by-set (λ x. cond (is_of k x) 1 0) m.board i None None (omega arith) in
      omega (arith, step, w.totals k);
  kings = λ c.
      let whole = w.squares in
      let step = sum_by-set (λ x. cond (is_king_of c x) 1 0) m.board i None None (omega arith) in
      omega (arith, step, w.kings c);
}

-- the two bags where one side has another
pub bags-with : (m : Material) (c : Color) (bag : List ℕ) (n : ℕ) → slice_index (with_bag m c bag).black n + slice_index (with_bag m c bag).white n + slice_index (bag_of m c) n ≡ slice_index m.black n + slice_index m.white n + slice_index bag n
bags-with m Black bag n = omega arith
bags-with m White bag n = omega arith

pub own-seven : (m : Material) (c : Color) → IsWithinTotals m → length (bag_of m c) ≡ 7
own-seven m Black w = w.black_kinds
own-seven m White w = w.white_kinds

-- another bag for one side, if there is room for what it has more
bag-within : (m : Material) (c : Color) (bag : List ℕ) → IsWithinTotals m → length bag ≡ 7 → ((k : Kind) → total m k + slice_index bag (place_of k) ≤ limit k + slice_index (bag_of m c) (place_of k)) → IsWithinTotals (with_bag m c bag)
bag-within m Black bag w seven room = record { squares = w.squares; black_kinds = seven; white_kinds = w.white_kinds; totals = λ k. let r = room k in omega (arith, r); kings = w.kings }
bag-within m White bag w seven room = record { squares = w.squares; black_kinds = w.black_kinds; white_kinds = seven; totals = λ k. let r = room k in omega (arith, r); kings = w.kings }

rest-room : (s : Layout) (bag : List ℕ) → IsWithinTotals s.material → (k : Kind) → total s.material k + slice_index (with_rest s bag) (place_of k) ≤ limit k + slice_index bag (place_of k)
rest-room s bag w Pawn = omega (arith, w.totals Pawn)
rest-room s bag w k = omega (arith, w.totals k, total-same s.material (unpromoted k) k (unpromoted-place k))

-- all that remains
pub rest-within : (s : Layout) (color : Color) → IsWithinTotals s.material → IsWithinTotals (with_bag s.material color (with_rest s (bag_of s.material color)))
rest-within s color w = bag-within s.material color (with_rest s (bag_of s.material color)) w refl (rest-room s (bag_of s.material color) w)

no-add-fault : (late other full : Bool) → first_fault ((AfterRest, late) ∷ (NotForHand, other) ∷ (TooMany, full) ∷ []) ≡ None → (other ≡ false) × (full ≡ false)
no-add-fault false false false h = (refl, refl)
no-add-fault _ _ _ h = absurd (cc)

not-false : (b : Bool) → not b ≡ false → b ≡ true
not-false true h = refl
not-false false h = cc

-- where a piece may be added to a hand it is of a kind for hands, and there is room for it
hand-room : (s : Layout) (kind : Kind) → add_fault s kind ≡ None → (is_hand_kind kind ≡ true) × (total s.material kind < limit kind)
hand-room s kind h = let e = no-add-fault _ _ _ h in (not-false _ e.0, room-test _ _ e.1)

-- a bag with another count at one place
other-count : (bag : List ℕ) (i j n : ℕ) → i < length bag → slice_index (set bag i n) j + cond (i == j) (slice_index bag i) 0 ≡ slice_index bag j + cond (i == j) n 0
other-count bag i j n low =
    elim (cases_eq i j) [
      | inl e ↦
          let one : (i == j) ≡ true = eq-self i j e in
          let new : slice_index (set bag i n) j ≡ n = rw (← e) (get_or-set_same bag i n 0 low) in
          let old : slice_index bag i ≡ slice_index bag j = ap (slice_index bag) e in
          rw one (omega (arith, new, old))
      | inr ne ↦
          let none : (i == j) ≡ false = ne_eqb i j ne in
          let same : slice_index (set bag i n) j ≡ slice_index bag j = get_or-set_other bag i j n 0 (λ e. ne (sym e)) in
          rw none (omega (arith, same))
    ]

more-at : (b : Bool) (new old n c : ℕ) → c ≡ n → new + cond b n 0 ≡ old + cond b (c + 1) 0 → new ≡ old + cond b 1 0
more-at true new old n c f e = omega (arith, f, e)
more-at false new old n c f e = omega (arith, e)

less-at : (b : Bool) (new old n c : ℕ) → c ≡ n → 0 < c → new + cond b n 0 ≡ old + cond b (c - 1) 0 → new + cond b 1 0 ≡ old
less-at true new old n c f some e = omega (arith, f, some, e)
less-at false new old n c f some e = omega (arith, e)

-- one more of a kind in a bag
pub bag-more : (bag : List ℕ) (its_kind k : Kind) → length bag ≡ 7 → is_hand_kind its_kind ≡ true → slice_index (one_more bag its_kind) (place_of k) ≡ slice_index bag (place_of k) + cond (place_of its_kind == place_of k) 1 0
bag-more bag its_kind k seven held =
    let low = held-low its_kind held in
    let e = other-count bag (place_of its_kind) (place_of k) (count_in bag its_kind + 1) (omega (arith, low, seven)) in
    let f : count_in bag its_kind ≡ slice_index bag (place_of its_kind) = rw held refl in
    more-at (place_of its_kind == place_of k) _ _ _ _ f e

-- and one less
pub bag-less : (bag : List ℕ) (its_kind k : Kind) → length bag ≡ 7 → 0 < count_in bag its_kind → slice_index (one_less bag its_kind) (place_of k) + cond (place_of its_kind == place_of k) 1 0 ≡ slice_index bag (place_of k)
bag-less bag its_kind k seven some =
    let held = (held-of bag its_kind some).0 in
    let low = held-low its_kind held in
    let e = other-count bag (place_of its_kind) (place_of k) (count_in bag its_kind - 1) (omega (arith, low, seven)) in
    let f : count_in bag its_kind ≡ slice_index bag (place_of its_kind) = rw held refl in
    less-at (place_of its_kind == place_of k) _ _ _ _ f some e

-- one more of a kind in a hand
pub more-within : (s : Layout) (color : Color) (kind : Kind) → IsWithinTotals s.material → add_fault s kind ≡ None → IsWithinTotals (added s color kind).material
more-within s color kind w h =
    let m = s.material in
    let bag = bag_of m color in
    let room = hand-room s kind h in
    bag-within m color (one_more bag kind) w (length-set bag _ _ ∙ own-seven m color w) (λ k.
    let more = bag-more bag kind k (own-seven m color w) room.0 in
    let most = few-more (place_of kind == place_of k) (total m k + cond (place_of kind == place_of k) 1 0) (total m k) (limit k) 0 (omega arith) (w.totals k) (λ e. let p : place_of kind ≡ place_of k = eq-place _ _ e in omega (arith, total-same m kind k p, limit-same kind k p, room.1)) in
    omega (arith, more, most))

held-fault : (late : Bool) (n : ℕ) → first_fault ((AfterRest, late) ∷ (NotThere, nat_eq n 0) ∷ []) ≡ None → 0 < n
held-fault false (suc n) h = omega arith
held-fault _ _ h = absurd (cc)

-- one less
pub less-within : (s : Layout) (color : Color) (kind : Kind) → IsWithinTotals s.material → take_hand_fault s color kind ≡ None → IsWithinTotals (taken s color kind).material
less-within s color kind w h =
    let m = s.material in
    let bag = bag_of m color in
    bag-within m color (one_less bag kind) w (length-set bag _ _ ∙ own-seven m color w) (λ k.
    let less = bag-less bag kind k (own-seven m color w) (held-fault s.rest_given _ h) in
    omega (arith, less, w.totals k))

limit-low : (k : Kind) → limit k < 255
limit-low Pawn = omega arith
limit-low _ = omega arith

-- a hand never holds so many of a kind
pub count-few : (m : Material) (color : Color) (kind : Kind) → IsWithinTotals m → is_hand_kind kind ≡ true → count_in (bag_of m color) kind < 255
count-few m Black kind w held = let all = w.totals kind in let low = limit-low kind in rw held (omega (arith, all, low))
count-few m White kind w held = let all = w.totals kind in let low = limit-low kind in rw held (omega (arith, all, low))

-- the counts of a board
pub count-at : (cells : Cells) (kind : Kind) → slice_index (board_counts cells) (place_of kind) ≡ count_by (is_of kind) cells
count-at cells Pawn = refl
count-at cells _ = refl

counts-with : (f g : Kind → ℕ) (h : ℕ → ℕ) (kind : Kind) → ((k : Kind) → g k ≡ cond (place_of kind == place_of k) (h (f k)) (f k)) → map g (hand_kinds ++ King ∷ []) ≡ set (map f (hand_kinds ++ King ∷ [])) (place_of kind) (h (slice_index (map f (hand_kinds ++ King ∷ [])) (place_of kind)))
counts-with f g h Pawn e = rw (e Pawn, e Lance, e Knight, e Silver, e Gold, e Bishop, e Rook, e King) refl
counts-with f g h _ e = rw (e Pawn, e Lance, e Knight, e Silver, e Gold, e Bishop, e Rook, e King) refl

set-more : (b : Bool) (new old : ℕ) → new + 0 ≡ old + cond b 1 0 → new ≡ cond b (old + 1) old
set-more true new old e = omega (arith, e)
set-more false new old e = omega (arith, e)

set-less : (b : Bool) (new old : ℕ) → new + cond b 1 0 ≡ old + 0 → new ≡ cond b (old - 1) old
set-less true new old e = omega (arith, e)
set-less false new old e = omega (arith, e)

-- a piece on an empty square
pub counts-more : (cells : Cells) (i : ℕ) (color : Color) (kind : Kind) → i < length cells → get_or cells i None ≡ None → board_counts (set cells i (piece color kind)) ≡ set (board_counts cells) (place_of kind) (slice_index (board_counts cells) (place_of kind) + 1)
counts-more cells i color kind low empty = counts-with _ _ (λ n. n + 1) kind (λ k.
    let step = sum_by-set (λ x. cond (is_of k x) 1 0) cells i (piece color kind) None low in
    set-more (place_of kind == place_of k) _ _ (rw empty at step))

-- the piece that is taken off
off-holds : (late b : Bool) → first_fault ((AfterRest, late) ∷ (NotThere, not b) ∷ []) ≡ None → b ≡ true
off-holds false true h = refl
off-holds _ _ h = absurd (cc)

held-kind : (cell : Option Piece) (kind : Kind) → holds kind cell ≡ true → (k : Kind) → is_of k cell ≡ (place_of kind == place_of k)
held-kind None _ h k = cc
held-kind (Some p) wanted h k = let same : place_of p.kind ≡ place_of wanted = eq-place _ _ (and_parts _ _ h).0 in rw same refl

pub off-there : (s : Layout) (square : Square) (kind : Kind) → take_off_fault s square kind ≡ None → (k : Kind) → is_of k (at s.material.board square) ≡ (place_of kind == place_of k)
off-there s square kind h = held-kind _ kind (off-holds s.rest_given _ h)

pub count-some : (cells : Cells) (i : ℕ) (kind : Kind) → i < length cells → is_of kind (get_or cells i None) ≡ (place_of kind == place_of kind) → 1 ≤ slice_index (board_counts cells) (place_of kind)
count-some cells i kind low there =
    let least = get_or-le-sum_by (λ x. cond (is_of kind x) 1 0) cells i None low in
    let same : is_of kind (get_or cells i None) ≡ true = there ∙ eq-self (place_of kind) (place_of kind) refl in
    let some : 1 ≤ count_by (is_of kind) cells = rw same at least in
    rw (count-at cells kind) some

-- a square made empty
pub counts-less : (cells : Cells) (i : ℕ) (kind : Kind) → i < length cells → ((k : Kind) → is_of k (get_or cells i None) ≡ (place_of kind == place_of k)) → board_counts (set cells i None) ≡ set (board_counts cells) (place_of kind) (slice_index (board_counts cells) (place_of kind) - 1)
counts-less cells i kind low there = counts-with _ _ (λ n. n - 1) kind (λ k.
    let step = sum_by-set (λ x. cond (is_of k x) 1 0) cells i None None low in
    set-less (place_of kind == place_of k) _ _ (rw (there k) at step))
