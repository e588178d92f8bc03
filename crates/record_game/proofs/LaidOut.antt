-- The position statements lay out the start that they give.
use Rattle.std.proofs.Common.{◌≡◌, ℕ, ◌-◌, ◌<◌, ◌≤◌, false, List, [], ◌∷◌, ◌++◌, drop, length, filter, map, Option, Some, None, Ok, refl, ap, arith, inl, inr}
use Rattle.std.specs.List.{AllByRecursion, flat_map}
use Rattle.std.proofs.lemmas.Bool.{cases_Bool}
use Rattle.shogi_board.specs.declared.color.Color.{Color}
use Rattle.shogi_board.specs.declared.kind.Piece.{Piece}
use Rattle.shogi_board.specs.declared.square.Square.{Square}
use Rattle.shogi_board.specs.Layout.{Layout}
use Rattle.shogi_board.specs.Setup.{position_of}
use Rattle.shogi_board.specs.Squares.{place}
use Rattle.csa_text.specs.declared.pair.Pair.{Pair}
use Rattle.csa_text.specs.declared.pair.Pair.TheVariants.{On, InHand, Rest}
use Rattle.csa_text.specs.Saying.{Saying, version, name, header, even, rank, pieces, turn, walked, time, ending}
use Rattle.csa_text.specs.Spelling.{Spells}
use Rattle.record_game.specs.Items.{is_even, is_position, positions}
use Rattle.record_game.specs.LaidOut.{laid_out}
use Rattle.shogi_board.specs.Placing.{Placing, on, off, in_hand, rest}
use Rattle.record_game.specs.Placings.{taken_off, pair_placing, cells_placings, placings_of, placings}
use Rattle.record_game.specs.Union.{first_board, GiveStart}
use Rattle.record_game.proofs.Bytes.{all_joined}
use Rattle.record_game.proofs.PlacedUnion.{OnlyOff, InTurn, placed_union, begins}

-- some bytes spell this item
abbrev pub IsWritten : Saying → Type 0
IsWritten s = (bytes : List ℕ) × Spells bytes s

-- nothing is taken off, and all squares are among the 81
abbrev IsLow : Placing → Type 0
IsLow (on n p) = n < 81
IsLow (off n k) = ⊥
IsLow (in_hand c k) = Unit {0}
IsLow (rest c) = Unit {0}

abbrev IsLowOff : Placing → Type 0
IsLowOff (on n p) = ⊥
IsLowOff (off n k) = n < 81
IsLowOff (in_hand c k) = ⊥
IsLowOff (rest c) = ⊥

low_place : (s : Square) → place s < 81
low_place s = let h = s.on_board in omega arith

cells_low : (file number : ℕ) (cs : List (Option Piece)) → file ≤ 9 → number ≤ 9 → AllByRecursion IsLow (cells_placings file number cs)
cells_low file number [] f n = tt
cells_low file number (None ∷ cs) f n = cells_low (file - 1) number cs (omega (arith, f)) n
cells_low file number (Some p ∷ cs) f n = (omega (arith, f, n), cells_low (file - 1) number cs (omega (arith, f)) n)

pairs_low : (c : Color) (ps : List Pair) → AllByRecursion IsLow (map (pair_placing c) ps)
pairs_low c [] = tt
pairs_low c (On s k ∷ ps) = (low_place s, pairs_low c ps)
pairs_low c (InHand k ∷ ps) = (tt, pairs_low c ps)
pairs_low c (Rest ∷ ps) = (tt, pairs_low c ps)

offs_low : (ps : List Pair) → AllByRecursion IsLowOff (flat_map taken_off ps)
offs_low [] = tt
offs_low (On s k ∷ ps) = (low_place s, offs_low ps)
offs_low (InHand k ∷ ps) = offs_low ps
offs_low (Rest ∷ ps) = offs_low ps

item_low : (s : Saying) → IsWritten s → is_even s ≡ false → AllByRecursion IsLow (placings_of s)
item_low version w h = tt
item_low (name c t) w h = tt
item_low (header k t) w h = tt
item_low (even ps) w h = cc
item_low (rank number cells) w h = cells_low 9 number cells (omega arith) w.1.high
item_low (pieces c ps) w h = pairs_low c ps
item_low (turn c) w h = tt
item_low (walked c m) w h = tt
item_low (time t) w h = tt
item_low (ending e) w h = tt

items_low : (ss : List Saying) → AllByRecursion IsWritten ss → AllByRecursion (λ s. is_even s ≡ false) ss → AllByRecursion IsLow (placings ss)
items_low [] w h = tt
items_low (s ∷ ss) w h = all_joined IsLow (placings_of s) (placings ss) (item_low s w.0 h.0) (items_low ss w.1 h.1)

low_in_turn : (done ps : List Placing) → AllByRecursion IsLow ps → InTurn done ps
low_in_turn done [] h = tt
low_in_turn done (on n p ∷ ps) h = (h.0, low_in_turn (done ++ on n p ∷ []) ps h.1)
low_in_turn done (off n k ∷ ps) h = absurd h.0
low_in_turn done (in_hand c k ∷ ps) h = low_in_turn (done ++ in_hand c k ∷ []) ps h.1
low_in_turn done (rest c ∷ ps) h = low_in_turn (done ++ rest c ∷ []) ps h.1

offs_in_turn : (done os ps : List Placing) → AllByRecursion OnlyOff done → AllByRecursion IsLowOff os → AllByRecursion IsLow ps → InTurn done (os ++ ps)
offs_in_turn done [] ps d h k = low_in_turn done ps k
offs_in_turn done (on n p ∷ os) ps d h k = absurd h.0
offs_in_turn done (off n j ∷ os) ps d h k =
    (h.0, d, offs_in_turn (done ++ off n j ∷ []) os ps (all_joined OnlyOff done (off n j ∷ []) d (tt, tt)) h.1 k)
offs_in_turn done (in_hand c j ∷ os) ps d h k = absurd h.0
offs_in_turn done (rest c ∷ os) ps d h k = absurd h.0

none_true : (ss : List Saying) → filter is_even ss ≡ [] → AllByRecursion (λ s. is_even s ≡ false) ss
none_true [] h = tt
none_true (s ∷ ss) h =
    elim (cases_Bool (is_even s)) [
      | inl hit ↦ let some : s ∷ filter is_even ss ≡ [] = rw hit at h in cc
      | inr miss ↦ (miss, none_true ss (let less : filter is_even ss ≡ [] = rw miss at h in less))
    ]

pub statements_in_turn : (ss : List Saying) → AllByRecursion IsWritten ss → filter is_even (drop 1 ss) ≡ [] → InTurn [] (placings ss)
statements_in_turn [] w h = tt
statements_in_turn (version ∷ ss) w h = low_in_turn [] (placings ss) (items_low ss w.1 (none_true ss h))
statements_in_turn (name c t ∷ ss) w h = low_in_turn [] (placings ss) (items_low ss w.1 (none_true ss h))
statements_in_turn (header k t ∷ ss) w h = low_in_turn [] (placings ss) (items_low ss w.1 (none_true ss h))
statements_in_turn (even ps ∷ ss) w h = offs_in_turn [] (flat_map taken_off ps) (placings ss) tt (offs_low ps) (items_low ss w.1 (none_true ss h))
statements_in_turn (rank n cs ∷ ss) w h = low_in_turn [] (placings (rank n cs ∷ ss)) (items_low (rank n cs ∷ ss) w (refl, none_true ss h))
statements_in_turn (pieces c ps ∷ ss) w h = low_in_turn [] (placings (pieces c ps ∷ ss)) (items_low (pieces c ps ∷ ss) w (refl, none_true ss h))
statements_in_turn (turn c ∷ ss) w h = low_in_turn [] (placings ss) (items_low ss w.1 (none_true ss h))
statements_in_turn (walked c m ∷ ss) w h = low_in_turn [] (placings ss) (items_low ss w.1 (none_true ss h))
statements_in_turn (time t ∷ ss) w h = low_in_turn [] (placings ss) (items_low ss w.1 (none_true ss h))
statements_in_turn (ending e ∷ ss) w h = low_in_turn [] (placings ss) (items_low ss w.1 (none_true ss h))

pub kept : (ss : List Saying) → AllByRecursion IsWritten ss → AllByRecursion IsWritten (positions ss)
kept [] w = tt
kept (s ∷ ss) w =
    elim (cases_Bool (is_position s)) [
      | inl hit ↦ rw hit (w.0, kept ss w.1)
      | inr miss ↦ rw miss (kept ss w.1)
    ]

pub board_squares : (ss : List Saying) → length (first_board ss) ≡ 81
board_squares [] = refl
board_squares (s ∷ ss) =
    elim (cases_Bool (is_even s)) [
      | inl hit ↦ rw hit refl
      | inr miss ↦ rw miss refl
    ]

pub laid_out_gives : (ss : List Saying) (t : Layout) (side : Color) → AllByRecursion IsWritten ss → filter is_even (drop 1 (positions ss)) ≡ [] → laid_out ss ≡ Ok t → GiveStart (positions ss) (position_of t side)
laid_out_gives ss t side w h laid =
    let ps = placings (positions ss) in
    let first = first_board (positions ss) in
    let u = placed_union first [] ps _ t (begins first (board_squares (positions ss))) refl (statements_in_turn (positions ss) (kept ss w) h) laid in
    record {
      layout = u.layout;
      union = u.union;
      start_is = ap (λ (s : Layout). position_of s side) u.placed_is;
    }
