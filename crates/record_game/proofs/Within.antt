-- What is placed stays within the totals.
use Rattle.std.proofs.Common.{◌≡◌, ◌≢◌, ℕ, zero, suc, ◌+◌, ◌-◌, ◌<◌, ◌≤◌, ◌==◌, ◌&&◌, Bool, true, false, not, cond, List, [], ◌∷◌, length, map, set, get_or, slice_index, Option, Some, None, Result, Ok, refl, sym, ap, ◌∙◌, subst, arith, inl, inr, lit≤}
use Rattle.std.specs.Prelude.{is_some, nat_lt}
use Rattle.std.specs.List.{AllByRecursion, flat_map}
use Rattle.std.proofs.lemmas.Bool.{cases_Bool, leb-false, lt-ltb, false≢true}
use Rattle.std.proofs.lemmas.Bool.Decides.{nat_tests}
use Rattle.std.proofs.lemmas.List.{length-set, get_or-set_same, get_or-set_other}
use Rattle.shogi_board.specs.declared.color.Color.{Color}
use Rattle.shogi_board.specs.declared.color.Color.TheVariants.{Black, White}
use Rattle.shogi_board.specs.declared.kind.Kind.{Kind}
use Rattle.shogi_board.specs.declared.kind.Kind.TheVariants.{Pawn, Lance, Knight, Silver, Gold, Bishop, Rook, King, ProPawn, ProLance, ProKnight, ProSilver, Horse, Dragon}
use Rattle.shogi_board.specs.declared.kind.Piece.{Piece}
use Rattle.shogi_board.specs.declared.square.Square.{Square}
use Rattle.shogi_board.specs.declared.setup.SetupFault.{SetupFault}
use Rattle.shogi_board.specs.declared.setup.SetupFault.TheVariants.{SquareTaken, SecondKing, TooMany, NotForHand, AfterRest}
use Rattle.shogi_board.specs.Cells.{even_cells, no_cells}
use Rattle.shogi_board.specs.Layout.{Layout}
use Rattle.shogi_board.specs.Pieces as kinds
use Rattle.shogi_board.specs.Pieces.{is_king, place_of}
use Rattle.shogi_board.specs.Setup as setup
use Rattle.shogi_board.specs.Setup.{is_full, holds, one_more, rest_to, with_rest}
use Rattle.shogi_board.specs.Squares.{place}
use Rattle.shogi_board.specs.Totals.{total, limit, kings_of, bare_board, count_in, IsWithinTotals}
use Rattle.shogi_board.proofs.Start.{even-within}
use Rattle.shogi_board.proofs.Totals.{limit-same, total-same, placed-within, removed-within, rest-within}
use Rattle.shogi_board.proofs.Forms.{held-low}
use Rattle.csa_text.specs.declared.pair.Pair.{Pair}
use Rattle.csa_text.specs.declared.pair.Pair.TheVariants.{On, InHand, Rest}
use Rattle.csa_text.specs.Saying.{Saying, version, name, header, even, rank, pieces, turn, walked, time, ending}
use Rattle.record_game.specs.Fits.{Fits}
use Rattle.shogi_board.specs.Placing.{Placing, on, off, in_hand, rest, placing_fault, placed, unless, place_all, board_alone}
use Rattle.record_game.specs.Placings.{taken_off, pair_placing, cells_placings, placings_of}
use Rattle.record_game.specs.Union.{with_rest_given}

abbrev pub Within : Layout → Type 0
Within s = IsWithinTotals s.material

-- on one of the 81 squares
abbrev pub IsOnBoard : Placing → Type 0
IsOnBoard (on n p) = n < 81
IsOnBoard (off n k) = n < 81
IsOnBoard (in_hand c k) = Unit {0}
IsOnBoard (rest c) = Unit {0}

-- no test of a fault holds
not_first : (f : SetupFault) (b : Bool) (fs : List (SetupFault × Bool)) → setup.first_fault ((f, b) ∷ fs) ≡ None → (b ≡ false) × (setup.first_fault fs ≡ None)
not_first f true fs h = cc
not_first f false fs h = (refl, h)

untrue : (b : Bool) → not b ≡ false → b ≡ true
untrue true h = refl
untrue false h = cc

room_in : (s : Layout) (k : Kind) → is_full s k ≡ false → total s.material k < limit k
room_in s k h = leb-false (limit k) (total s.material k) h

no_king : (b : Bool) (n : ℕ) → b && nat_lt 0 n ≡ false → b ≡ true → n ≡ 0
no_king true zero h k = refl
no_king true (suc n) h k = let above : nat_lt 0 (suc n) ≡ true = lt-ltb 0 (suc n) (omega arith) in let clash : nat_lt 0 (suc n) ≡ false = h in absurd (false≢true (sym clash ∙ above))
no_king false n h k = cc

within_on : (s : Layout) (n : ℕ) (p : Piece) → n < 81 → placing_fault s (on n p) ≡ None → Within s → Within (placed s (on n p))
within_on s n p low fine w =
    let full : List (SetupFault × Bool) = (TooMany, is_full s p.kind) ∷ [] in
    let king : List (SetupFault × Bool) = (SecondKing, is_king p.kind && nat_lt 0 (kings_of s.material.board p.color)) ∷ full in
    let taken : List (SetupFault × Bool) = (SquareTaken, is_some (get_or s.material.board n None)) ∷ king in
    let first = not_first AfterRest s.rest_given taken fine in
    let second = not_first SquareTaken (is_some (get_or s.material.board n None)) king first.1 in
    let third = not_first SecondKing (is_king p.kind && nat_lt 0 (kings_of s.material.board p.color)) full second.1 in
    let fourth = not_first TooMany (is_full s p.kind) [] third.1 in
    placed-within s.material p.color p.kind n w low (room_in s p.kind fourth.0) (λ h. no_king (is_king p.kind) (kings_of s.material.board p.color) third.0 h)

-- one more piece in a bag
bag_more : (bag : List ℕ) (k j : Kind) → length bag ≡ 7 → kinds.is_hand_kind k ≡ true → slice_index (one_more bag k) (place_of j) ≡ slice_index bag (place_of j) + cond (place_of k == place_of j) 1 0
bag_more bag k j seven held =
    let low = held-low k held in
    let counted : count_in bag k ≡ slice_index bag (place_of k) = rw held refl in
    elim (cases_Bool (place_of k == place_of j)) [
      | inl hit ↦
          let same : place_of k ≡ place_of j = grind (arith, nat_tests, hit) in
          let new : slice_index (set bag (place_of k) (count_in bag k + 1)) (place_of k) ≡ count_in bag k + 1 = get_or-set_same bag (place_of k) (count_in bag k + 1) 0 (omega (arith, low, seven)) in
          let here : slice_index (set bag (place_of k) (count_in bag k + 1)) (place_of j) ≡ count_in bag k + 1 = ap (λ n. slice_index (set bag (place_of k) (count_in bag k + 1)) n) (sym same) ∙ new in
          let old : slice_index bag (place_of k) ≡ slice_index bag (place_of j) = ap (slice_index bag) same in
          rw hit (omega (arith, here, counted, old))
      | inr miss ↦
          let other : place_of j ≢ place_of k = λ e. let hit : (place_of k == place_of j) ≡ true = grind (arith, nat_tests, e) in cc in
          let there : slice_index (set bag (place_of k) (count_in bag k + 1)) (place_of j) ≡ slice_index bag (place_of j) = get_or-set_other bag (place_of k) (place_of j) (count_in bag k + 1) 0 other in
          rw miss (omega (arith, there))
    ]

more : (b : Bool) (new old many : ℕ) → new ≡ old + cond b 1 0 → old ≤ many → (b ≡ true → old < many) → new ≤ many
more true new old many e low h = let k = h refl in omega (arith, e, k)
more false new old many e low h = omega (arith, e, low)

eq_place : (m n : ℕ) → (m == n) ≡ true → m ≡ n
eq_place m n h = grind (arith, nat_tests, h)

within_hand : (s : Layout) (c : Color) (k : Kind) → kinds.is_hand_kind k ≡ true → total s.material k < limit k → Within s → Within (placed s (in_hand c k))
within_hand s Black k held room w = record {
  squares = w.squares;
  black_kinds = length-set s.material.black _ _ ∙ w.black_kinds;
  white_kinds = w.white_kinds;
  totals = λ j.
      let step = bag_more s.material.black k j w.black_kinds held in
      more (place_of k == place_of j) _ (total s.material j) _ (omega (arith, step)) (w.totals j)
      (λ h. let p = eq_place (place_of k) (place_of j) h in omega (arith, total-same s.material k j p, limit-same k j p, room));
  kings = w.kings;
}
within_hand s White k held room w = record {
  squares = w.squares;
  black_kinds = w.black_kinds;
  white_kinds = length-set s.material.white _ _ ∙ w.white_kinds;
  totals = λ j.
      let step = bag_more s.material.white k j w.white_kinds held in
      more (place_of k == place_of j) _ (total s.material j) _ (omega (arith, step)) (w.totals j)
      (λ h. let p = eq_place (place_of k) (place_of j) h in omega (arith, total-same s.material k j p, limit-same k j p, room));
  kings = w.kings;
}

within_rest : (s : Layout) (c : Color) → Within s → Within (rest_to s c)
within_rest s c w = rest-within s c w

within_placed : (s : Layout) (p : Placing) → IsOnBoard p → placing_fault s p ≡ None → Within s → Within (placed s p)
within_placed s (on n p) low fine w = within_on s n p low fine w
within_placed s (off n k) low fine w = removed-within s.material n w low
within_placed s (in_hand c k) low fine w =
    let full : List (SetupFault × Bool) = (TooMany, is_full s k) ∷ [] in
    let seven_kinds : List (SetupFault × Bool) = (NotForHand, not (kinds.is_hand_kind k)) ∷ full in
    let first = not_first AfterRest s.rest_given seven_kinds fine in
    let second = not_first NotForHand (not (kinds.is_hand_kind k)) full first.1 in
    let third = not_first TooMany (is_full s k) [] second.1 in
    within_hand s c k (untrue (kinds.is_hand_kind k) second.0) (room_in s k third.0) w
within_placed s (rest c) low fine w = within_rest s c w

fine_first : (fault : Option SetupFault) (next : Result Layout SetupFault) (t : Layout) → unless fault next ≡ Ok t → (fault ≡ None) × (next ≡ Ok t)
fine_first None next t h = (refl, h)
fine_first (Some f) next t h = cc

-- all that are placed, one after another
pub all_within : (s t : Layout) (ps : List Placing) → AllByRecursion IsOnBoard ps → Within s → place_all s ps ≡ Ok t → Within t
all_within s t [] low w h = let same : s ≡ t = cc in subst Within same w
all_within s t (p ∷ ps) low w h =
    let step = fine_first (placing_fault s p) (place_all (placed s p) ps) t h in
    all_within (placed s p) t ps low.1 (within_placed s p low.0 step.0 w) step.1

-- what items place
low_place : (s : Square) → place s < 81
low_place s = let h = s.on_board in omega arith

cells_low : (file number : ℕ) (cs : List (Option Piece)) → file ≤ 9 → number ≤ 9 → AllByRecursion IsOnBoard (cells_placings file number cs)
cells_low file number [] f n = tt
cells_low file number (None ∷ cs) f n = cells_low (file - 1) number cs (omega (arith, f)) n
cells_low file number (Some p ∷ cs) f n = (omega (arith, f, n), cells_low (file - 1) number cs (omega (arith, f)) n)

pairs_low : (c : Color) (ps : List Pair) → AllByRecursion IsOnBoard (map (pair_placing c) ps)
pairs_low c [] = tt
pairs_low c (On s k ∷ ps) = (low_place s, pairs_low c ps)
pairs_low c (InHand k ∷ ps) = (tt, pairs_low c ps)
pairs_low c (Rest ∷ ps) = (tt, pairs_low c ps)

offs_low : (ps : List Pair) → AllByRecursion IsOnBoard (flat_map taken_off ps)
offs_low [] = tt
offs_low (On s k ∷ ps) = (low_place s, offs_low ps)
offs_low (InHand k ∷ ps) = offs_low ps
offs_low (Rest ∷ ps) = offs_low ps

pub item_on_board : (s : Saying) → Fits s → AllByRecursion IsOnBoard (placings_of s)
item_on_board version h = tt
item_on_board (name c t) h = tt
item_on_board (header k t) h = tt
item_on_board (even ps) h = offs_low ps
item_on_board (rank number cells) h = cells_low 9 number cells (omega arith) h.1
item_on_board (pieces c ps) h = pairs_low c ps
item_on_board (turn c) h = tt
item_on_board (walked c m) h = tt
item_on_board (time t) h = tt
item_on_board (ending e) h = tt

-- the boards to begin with
none_totals : (k : Kind) → total (bare_board no_cells) k ≤ limit k
none_totals Pawn = lit≤ tt
none_totals Lance = lit≤ tt
none_totals Knight = lit≤ tt
none_totals Silver = lit≤ tt
none_totals Gold = lit≤ tt
none_totals Bishop = lit≤ tt
none_totals Rook = lit≤ tt
none_totals King = lit≤ tt
none_totals ProPawn = lit≤ tt
none_totals ProLance = lit≤ tt
none_totals ProKnight = lit≤ tt
none_totals ProSilver = lit≤ tt
none_totals Horse = lit≤ tt
none_totals Dragon = lit≤ tt

none_kings : (c : Color) → kings_of no_cells c ≤ 1
none_kings Black = lit≤ tt
none_kings White = lit≤ tt

pub none_within : Within (board_alone no_cells)
none_within = record { squares = refl; black_kinds = refl; white_kinds = refl; totals = none_totals; kings = none_kings }

pub all_even_within : Within (board_alone even_cells)
all_even_within = even-within

-- before the rest is given
no_king_place : (bag : List ℕ) → length bag ≡ 7 → slice_index bag 7 ≡ 0
no_king_place (a ∷ b ∷ c ∷ d ∷ e ∷ f ∷ g ∷ []) h = refl
no_king_place [] h = refl
no_king_place (a ∷ []) h = refl
no_king_place (a ∷ b ∷ []) h = refl
no_king_place (a ∷ b ∷ c ∷ []) h = refl
no_king_place (a ∷ b ∷ c ∷ d ∷ []) h = refl
no_king_place (a ∷ b ∷ c ∷ d ∷ e ∷ []) h = refl
no_king_place (a ∷ b ∷ c ∷ d ∷ e ∷ f ∷ []) h = refl
no_king_place (a ∷ b ∷ c ∷ d ∷ e ∷ f ∷ g ∷ i ∷ js) h = absurd (omega (arith, h))

rest_adds : (s : Layout) (bag : List ℕ) (k : Kind) → length bag ≡ 7 → slice_index bag (place_of k) ≤ slice_index (with_rest s bag) (place_of k)
rest_adds s bag Pawn h = omega arith
rest_adds s bag Lance h = omega arith
rest_adds s bag Knight h = omega arith
rest_adds s bag Silver h = omega arith
rest_adds s bag Gold h = omega arith
rest_adds s bag Bishop h = omega arith
rest_adds s bag Rook h = omega arith
rest_adds s bag King h = let none = no_king_place bag h in omega (arith, none)
rest_adds s bag ProPawn h = omega arith
rest_adds s bag ProLance h = omega arith
rest_adds s bag ProKnight h = omega arith
rest_adds s bag ProSilver h = omega arith
rest_adds s bag Horse h = omega arith
rest_adds s bag Dragon h = omega arith

pub before_rest : (s : Layout) (colors : List Color) → length s.material.black ≡ 7 → length s.material.white ≡ 7 → Within (with_rest_given colors s) → Within s
before_rest s [] b w h = h
before_rest s (Black ∷ colors) b w h = record {
  squares = h.squares;
  black_kinds = b;
  white_kinds = w;
  totals = λ k. omega (arith, rest_adds s s.material.black k b, h.totals k);
  kings = h.kings;
}
before_rest s (White ∷ colors) b w h = record {
  squares = h.squares;
  black_kinds = b;
  white_kinds = w;
  totals = λ k. omega (arith, rest_adds s s.material.white k w, h.totals k);
  kings = h.kings;
}
