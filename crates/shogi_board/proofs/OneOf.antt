-- That some element of a list has a property, element by element.
use Rattle.std.proofs.Common.{◌≡◌, ℕ, zero, suc, ◌<◌, ◌⊎◌, inl, inr, List, [], ◌∷◌, length, get_or, Any, arith, refl}

abbrev pub OneOf : {X : Type 0} → (X → Type 0) → List X → Type 0
OneOf P [] = ⊥
OneOf P (x ∷ xs) = P x ⊎ OneOf P xs

one-at : {X : Type 0} (P : X → Type 0) (xs : List X) (k : ℕ) (x : X) → k < length xs → get_or xs k x ≡ x → P x → OneOf P xs
one-at P [] k x lt e h = absurd (omega arith)
one-at P (y ∷ ys) zero x lt e h = inl (rw e h)
one-at P (y ∷ ys) (suc k) x lt e h = inr (one-at P ys k x (omega arith) e h)

pub one-of : {X : Type 0} (P : X → Type 0) (xs : List X) → Any P xs → OneOf P xs
one-of P xs a = one-at P xs a.0 a.1 a.2 a.3 a.4

pub any-of : {X : Type 0} (P : X → Type 0) (xs : List X) → OneOf P xs → Any P xs
any-of P [] h = elim h [ ]
any-of P (x ∷ xs) (inl h) = (0, x, omega arith, refl, h)
any-of P (x ∷ xs) (inr h) = let a = any-of P xs h in (suc a.0, a.1, omega (arith, a.2), a.3, a.4)
