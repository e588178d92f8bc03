-- How often a position occurs in a list that grows at its end, and what is at a place of such a
-- list.
use Rattle.std.proofs.Common.{◌≡◌, ℕ, set, suc, ◌+◌, ◌<◌, ◌≤◌, ◌⊎◌, List, [], ◌∷◌, ◌++◌, Bool, true, false, cond, Some, take, slice_get, arith, refl, sym, ap, ◌∙◌, length, inl, inr, zero}
use Rattle.std.proofs.lemmas.Bool.{cases_lt}
use Rattle.std.proofs.lemmas.List.{take-append-le, take_all}
use Rattle.std.proofs.lemmas.Option.{same_Some}
use Rattle.shogi_board.specs.Placed.{Placed}
use Rattle.shogi_board.specs.Same.{same_position}
use Rattle.shogi_board.proofs.Same.{position-same}
use Rattle.shogi_rules.specs.Repetition.{times}
use Rattle.shogi_rules.specs.Searching.{keys}
use Rattle.shogi_rules.specs.declared.occurrences.Entry.{Entry}
use Rattle.shogi_rules.proofs.Counts.{first}

pub pushed : (ps : List Placed) (p q : Placed) → times (ps ++ p ∷ []) q ≡ times ps q + cond (same_position p q) 1 0
pushed [] p q = let e = first [] p q in omega (arith, e)
pushed (x ∷ xs) p q =
    let e = first (xs ++ p ∷ []) x q in
    let d = first xs x q in
    omega (arith, e, d, pushed xs p q)

le-step : (b : Bool) (n k : ℕ) → n ≤ k → cond b 1 0 + n ≤ k + 1
le-step true n k h = omega arith
le-step false n k h = omega arith

pub times-low : (ps : List Placed) (q : Placed) → times ps q ≤ length ps
times-low [] q = omega arith
times-low (x ∷ xs) q = let e = first xs x q in omega (arith, e, le-step (same_position x q) (times xs q) (length xs) (times-low xs q))

one-counted : (b : Bool) (n m : ℕ) → b ≡ true → n ≡ m + cond b 1 0 → n ≡ m + 1
one-counted true n m h e = e
one-counted false n m h e = cc

pub times-last : (ps : List Placed) (p : Placed) → times (ps ++ p ∷ []) p ≡ times ps p + 1
times-last ps p = one-counted (same_position p p) _ _ ((position-same p p).1 refl) (pushed ps p p)

is-false : (b : Bool) → (b ≡ true → ⊥) → b ≡ false
is-false true h = absurd (h refl)
is-false false h = refl

pub apart : (p q : Placed) → (p ≡ q → ⊥) → same_position p q ≡ false
apart p q h = is-false (same_position p q) (λ e. h ((position-same p q).0 e))

pub times-whole : (ps : List Placed) (n : ℕ) (q : Placed) → length ps ≤ n → times (take n ps) q ≡ times ps q
times-whole ps n q h = ap (λ (l : List Placed). times l q) (take_all n ps h)

pub times-kept : (ps : List Placed) (p : Placed) (n : ℕ) (q : Placed) → n ≤ length ps → times (take n (ps ++ p ∷ [])) q ≡ times (take n ps) q
times-kept ps p n q h = ap (λ (l : List Placed). times l q) (take-append-le n ps (p ∷ []) h)

pub get-left : {X : Type 0} (xs ys : List X) (i : ℕ) → i < length xs → slice_get (xs ++ ys) i ≡ slice_get xs i
get-left [] ys i low = absurd (omega arith)
get-left (x ∷ xs) ys zero low = refl
get-left (x ∷ xs) ys (suc i) low = get-left xs ys i (omega arith)

pub get-following : {X : Type 0} (xs : List X) (y : X) (i : ℕ) → i ≡ length xs → slice_get (xs ++ y ∷ []) i ≡ Some y
get-following [] y zero e = refl
get-following [] y (suc i) e = absurd (omega (arith, e))
get-following (x ∷ xs) y zero e = absurd (omega (arith, e))
get-following (x ∷ xs) y (suc i) e = get-following xs y i (omega (arith, e))

pub times-other : (ps : List Placed) (p q : Placed) (b : Bool) → same_position p q ≡ b → b ≡ false → times (ps ++ p ∷ []) q ≡ times ps q
times-other ps p q true e h = cc
times-other ps p q false e h = let more : times (ps ++ p ∷ []) q ≡ times ps q + 0 = rw e at (pushed ps p q) in omega (arith, more)

pub keys-more : (es : List Entry) (e : Entry) → keys (es ++ e ∷ []) ≡ keys es ++ e.position ∷ []
keys-more [] e = refl
keys-more (x ∷ es) e = ap (λ (ps : List Placed). x.position ∷ ps) (keys-more es e)

pub key-at : (es : List Entry) (i : ℕ) (e : Entry) → slice_get es i ≡ Some e → slice_get (keys es) i ≡ Some e.position
key-at [] i e at = cc
key-at (x ∷ es) zero e at = ap (λ (d : Entry). Some d.position) (same_Some x e at)
key-at (x ∷ es) (suc i) e at = key-at es i e at

pub last-entry : (es : List Entry) (d e : Entry) (i : ℕ) → i ≡ length es → slice_get (es ++ d ∷ []) i ≡ Some e → d ≡ e
last-entry es d e i same at = same_Some d e (sym (get-following es d i same) ∙ at)

-- an entry that is counted on keeps its position, and so do all
pub keys-kept : (es : List Entry) (i : ℕ) (d e : Entry) → slice_get es i ≡ Some d → e.position ≡ d.position → keys (set es i e) ≡ keys es
keys-kept [] i d e at same = cc
keys-kept (x ∷ es) zero d e at same =
    let one : x ≡ d = same_Some x d at in
    ap (λ (p : Placed). p ∷ keys es) (same ∙ ap (λ (y : Entry). y.position) (sym one))
keys-kept (x ∷ es) (suc i) d e at same = ap (λ (ps : List Placed). x.position ∷ ps) (keys-kept es i d e at same)

-- what is at a place of a list if one place was set
pub get-set : {X : Type 0} (xs : List X) (n : ℕ) (d e x : X) → slice_get xs n ≡ Some d → slice_get (set xs n e) n ≡ Some x → e ≡ x
get-set [] n d e x at there = cc
get-set (y ∷ xs) zero d e x at there = same_Some e x there
get-set (y ∷ xs) (suc n) d e x at there = get-set xs n d e x at there

pub get-here : {X : Type 0} (xs : List X) (n : ℕ) (d e : X) → slice_get xs n ≡ Some d → slice_get (set xs n e) n ≡ Some e
get-here [] n d e at = cc
get-here (y ∷ xs) zero d e at = refl
get-here (y ∷ xs) (suc n) d e at = get-here xs n d e at

pub get-other : {X : Type 0} (xs : List X) (n i : ℕ) (e : X) → (i ≡ n → ⊥) → slice_get (set xs n e) i ≡ slice_get xs i
get-other [] n i e other = refl
get-other (y ∷ xs) zero zero e other = absurd (other refl)
get-other (y ∷ xs) zero (suc i) e other = refl
get-other (y ∷ xs) (suc n) zero e other = refl
get-other (y ∷ xs) (suc n) (suc i) e other = get-other xs n i e (λ same. other (ap suc same))

pub equal-or : (i n : ℕ) → (i ≡ n) ⊎ (i ≡ n → ⊥)
equal-or i n =
    elim (cases_lt i n) [
      | inl low ↦ inr (λ e. omega (arith, e, low))
      | inr le ↦ elim (cases_lt n i) [
        | inl high ↦ inr (λ e. omega (arith, e, high))
        | inr ge ↦ inl (omega (arith, le, ge))
      ]
    ]
