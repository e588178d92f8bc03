-- Moves with their times.
use Rattle.std.proofs.Common.{◌≡◌, ℕ, zero, suc, ◌-◌, ◌<◌, Bool, true, false, not, List, [], ◌∷◌, ◌++◌, length, map, replicate, set, Option, Some, None, arith, refl, sym, ap, ◌∙◌}
use Rattle.std.specs.Prelude.{is_some, slice_get}
use Rattle.std.specs.List.{flat_map}
use Rattle.shogi_board.specs.declared.color.Color.{Color}
use Rattle.shogi_board.specs.declared.moves.Move.{Move}
use Rattle.record_game.specs.Canon.{ended_line}
use Rattle.record_game.specs.Course.{awaits, untimed, with_last_time, time_of}
use Rattle.csa_record.specs.Coursing.{timed, lacks_last, with_last}
use Rattle.record_game.specs.Game.{Timed, move_of}
use Rattle.record_game.specs.Says.{move_items}

pub moves_timed : (ms : List Move) (ts : List (Option ℕ)) → length ts ≡ length ms → map move_of (timed ms ts) ≡ ms
moves_timed [] ts h = refl
moves_timed (m ∷ ms) [] h = absurd (omega (arith, h))
moves_timed (m ∷ ms) (t ∷ ts) h = ap (λ (xs : List Move). m ∷ xs) (moves_timed ms ts (omega (arith, h)))

pub times_timed : (ms : List Move) (ts : List (Option ℕ)) → length ts ≡ length ms → map time_of (timed ms ts) ≡ ts
times_timed [] [] h = refl
times_timed [] (t ∷ ts) h = absurd (omega (arith, h))
times_timed (m ∷ ms) [] h = absurd (omega (arith, h))
times_timed (m ∷ ms) (t ∷ ts) h = ap (λ (xs : List (Option ℕ)). t ∷ xs) (times_timed ms ts (omega (arith, h)))

pub length_timed : (ms : List Move) (ts : List (Option ℕ)) → length ts ≡ length ms → length (timed ms ts) ≡ length ms
length_timed [] ts h = refl
length_timed (m ∷ ms) [] h = absurd (omega (arith, h))
length_timed (m ∷ ms) (t ∷ ts) h = let k = length_timed ms ts (omega (arith, h)) in omega (arith, k)

pub timed_more : (ms : List Move) (ts : List (Option ℕ)) (m : Move) → length ts ≡ length ms → timed (ms ++ m ∷ []) (ts ++ None ∷ []) ≡ timed ms ts ++ untimed m ∷ []
timed_more [] [] m h = refl
timed_more [] (t ∷ ts) m h = absurd (omega (arith, h))
timed_more (n ∷ ms) [] m h = absurd (omega (arith, h))
timed_more (n ∷ ms) (t ∷ ts) m h = ap (λ (xs : List Timed). record { move = n; time = t } ∷ xs) (timed_more ms ts m (omega (arith, h)))

pub timed_none : (ms : List Move) → timed ms (replicate (length ms) None) ≡ map untimed ms
timed_none [] = refl
timed_none (m ∷ ms) = ap (λ (xs : List Timed). untimed m ∷ xs) (timed_none ms)

pub awaits_timed : (ms : List Move) (ts : List (Option ℕ)) → length ts ≡ length ms → awaits (timed ms ts) ≡ lacks_last ts
awaits_timed [] [] h = refl
awaits_timed [] (t ∷ ts) h = absurd (omega (arith, h))
awaits_timed (m ∷ ms) [] h = absurd (omega (arith, h))
awaits_timed (m ∷ []) (t ∷ []) h = refl
awaits_timed (m ∷ []) (t ∷ u ∷ ts) h = absurd (omega (arith, h))
awaits_timed (m ∷ n ∷ ms) (t ∷ []) h = absurd (omega (arith, h))
awaits_timed (m ∷ n ∷ ms) (t ∷ u ∷ ts) h = awaits_timed (n ∷ ms) (u ∷ ts) (omega (arith, h))

pub timed_last : (ms : List Move) (ts : List (Option ℕ)) (time : ℕ) → length ts ≡ length ms → timed ms (with_last ts time) ≡ with_last_time (timed ms ts) time
timed_last [] ts time h = refl
timed_last (m ∷ ms) [] time h = absurd (omega (arith, h))
timed_last (m ∷ []) (t ∷ []) time h = refl
timed_last (m ∷ []) (t ∷ u ∷ ts) time h = absurd (omega (arith, h))
timed_last (m ∷ n ∷ ms) (t ∷ []) time h = absurd (omega (arith, h))
timed_last (m ∷ n ∷ ms) (t ∷ u ∷ ts) time h = ap (λ (xs : List Timed). record { move = m; time = t } ∷ xs) (timed_last (n ∷ ms) (u ∷ ts) time (omega (arith, h)))

pub length_with_last : (ts : List (Option ℕ)) (time : ℕ) → length (with_last ts time) ≡ length ts
length_with_last [] time = refl
length_with_last (t ∷ []) time = refl
length_with_last (t ∷ u ∷ ts) time = let k = length_with_last (u ∷ ts) time in omega (arith, k)

-- the last time is written at its index
set_last_at : (ts : List (Option ℕ)) (n time : ℕ) → suc n ≡ length ts → set ts n (Some time) ≡ with_last ts time
set_last_at [] n time h = absurd (omega (arith, h))
set_last_at (t ∷ []) zero time h = refl
set_last_at (t ∷ []) (suc n) time h = absurd (omega (arith, h))
set_last_at (t ∷ u ∷ ts) zero time h = absurd (omega (arith, h))
set_last_at (t ∷ u ∷ ts) (suc n) time h = ap (λ (xs : List (Option ℕ)). t ∷ xs) (set_last_at (u ∷ ts) n time (omega (arith, h)))

pub last_set : (ts : List (Option ℕ)) (count time : ℕ) → count ≡ length ts → 0 < count → set ts (count - 1) (Some time) ≡ with_last ts time
last_set ts count time h some = set_last_at ts (count - 1) time (omega (arith, h, some))

-- the last time is read at its index
lacks_at : (ts : List (Option ℕ)) (n : ℕ) (t : Option ℕ) → suc n ≡ length ts → slice_get ts n ≡ Some t → lacks_last ts ≡ not (is_some t)
lacks_at [] n t h e = absurd (omega (arith, h))
lacks_at (x ∷ []) zero t h e = ap (λ o. not (is_some (some_or o x))) e
  where
    some_or : Option (Option ℕ) → Option ℕ → Option ℕ
    some_or None y = y
    some_or (Some z) y = z
lacks_at (x ∷ []) (suc n) t h e = absurd (omega (arith, h))
lacks_at (x ∷ y ∷ ts) zero t h e = absurd (omega (arith, h))
lacks_at (x ∷ y ∷ ts) (suc n) t h e = lacks_at (y ∷ ts) n t (omega (arith, h)) e

turned : (a b : Bool) → a ≡ not b → b ≡ not a
turned true false h = refl
turned false true h = refl
turned true true h = cc
turned false false h = cc

pub last_lacks : (ts : List (Option ℕ)) (t : Option ℕ) (b : Bool) → Some t ≡ slice_get ts (length ts - 1) → is_some t ≡ not b → b ≡ lacks_last ts
last_lacks [] t b e h = cc
last_lacks (x ∷ ts) t b e h =
    turned (is_some t) b h ∙ sym (lacks_at (x ∷ ts) (length (x ∷ ts) - 1) t (omega arith) (sym e))

-- the lines of these moves and times, the first of this side
abbrev pub lines_of : Color → List Move → List (Option ℕ) → List ℕ
lines_of color ms ts = flat_map ended_line (move_items color (timed ms ts))

-- a property that no number has is one of None only
pub none_only : (P : Option ℕ → Type 0) → ((n : ℕ) → P (Some n) → ⊥) → (t : Option ℕ) → P t → t ≡ None
none_only P h None k = refl
none_only P h (Some n) k = absurd (h n k)
