-- How often a position occurs in a list, by what is first.
use Rattle.std.proofs.Common.{◌≡◌, ℕ, ◌+◌, ◌↔◌, Bool, true, false, cond, List, ◌∷◌, arith, refl}
use Rattle.std.proofs.lemmas.List.Sums.{sum_by-cons}
use Rattle.shogi_board.specs.Placed.{Placed}
use Rattle.shogi_board.specs.Same.{same_position}
use Rattle.shogi_board.proofs.Same.{position-same}
use Rattle.shogi_rules.specs.Repetition.{times}

one-more : (b : Bool) (n m : ℕ) (P : Type 0) → m ≡ cond b 1 0 + n → ((b ≡ true) ↔ P) → (m ≡ n + 1) ↔ P
one-more true n m P e d = (λ _. d.0 refl, λ _. omega (arith, e))
one-more false n m P e d = (λ h. absurd (omega (arith, e, h)), λ p. let f = d.1 p in cc)

no-more : (b : Bool) (n m : ℕ) (P : Type 0) → m ≡ cond b 1 0 + n → ((b ≡ true) ↔ P) → (P → ⊥) → m ≡ n
no-more true n m P e d apart = absurd (apart (d.0 refl))
no-more false n m P e d apart = omega (arith, e)

pub first : (ps : List Placed) (p q : Placed) → times (p ∷ ps) q ≡ cond (same_position p q) 1 0 + times ps q
first ps p q = let e = sum_by-cons (λ (x : Placed). cond (same_position x q) 1 0) p ps in omega (arith, e)

pub times-more : (ps : List Placed) (p q : Placed) → (times (p ∷ ps) q ≡ times ps q + 1) ↔ (p ≡ q)
times-more ps p q = one-more (same_position p q) (times ps q) (times (p ∷ ps) q) (p ≡ q) (first ps p q) (position-same p q)

pub times-same : (ps : List Placed) (p q : Placed) → (p ≡ q → ⊥) → times (p ∷ ps) q ≡ times ps q
times-same ps p q = no-more (same_position p q) (times ps q) (times (p ∷ ps) q) (p ≡ q) (first ps p q) (position-same p q)
