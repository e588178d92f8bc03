-- What comes before and after the first element that passes a test, in a list that grows at its
-- end.
use Rattle.std.proofs.Common.{◌≡◌, ◌++◌, ◌⊎◌, inl, inr, Bool, true, false, List, [], ◌∷◌, refl, ap}
use Rattle.std.specs.List.{AllByRecursion, list_any}
use Rattle.bridge_table.specs.Logs.{following, ahead}

abbrev pub NoneOf : {X : Type 0} → (X → Bool) → List X → Type 0
NoneOf p xs = AllByRecursion (λ x. p x ≡ false) xs

abbrev pub HasOne : {X : Type 0} → (X → Bool) → List X → Type 0
HasOne p [] = ⊥
HasOne p (x ∷ xs) = (p x ≡ true) ⊎ ((p x ≡ false) × HasOne p xs)

pub all_more : {X : Type 0} (P : X → Type 0) (xs : List X) (x : X) → AllByRecursion P xs → P x → AllByRecursion P (xs ++ x ∷ [])
all_more P [] x h k = (k, tt)
all_more P (y ∷ ys) x h k = (h.0, all_more P ys x h.1 k)

pub none_more : {X : Type 0} (p : X → Bool) (xs : List X) (x : X) → NoneOf p xs → p x ≡ false → NoneOf p (xs ++ x ∷ [])
none_more p [] x h e = (e, tt)
none_more p (y ∷ ys) x h e = (h.0, none_more p ys x h.1 e)

pub has_more : {X : Type 0} (p : X → Bool) (xs ys : List X) → HasOne p xs → HasOne p (xs ++ ys)
has_more p [] ys h = absurd h
has_more p (x ∷ xs) ys (inl h) = inl h
has_more p (x ∷ xs) ys (inr h) = inr (h.0, has_more p xs ys h.1)

pub has_found : {X : Type 0} (p : X → Bool) (xs : List X) (x : X) → NoneOf p xs → p x ≡ true → HasOne p (xs ++ x ∷ [])
has_found p [] x h e = inl e
has_found p (y ∷ ys) x h e = inr (h.0, has_found p ys x h.1 e)

pub after_found : {X : Type 0} (p : X → Bool) (xs : List X) (x : X) → NoneOf p xs → p x ≡ true → following p (xs ++ x ∷ []) ≡ []
after_found p [] x h e = rw e refl
after_found p (y ∷ ys) x h e = rw h.0 (after_found p ys x h.1 e)

pub after_none : {X : Type 0} (p : X → Bool) (xs : List X) → NoneOf p xs → following p xs ≡ []
after_none p [] h = refl
after_none p (x ∷ xs) h = rw h.0 (after_none p xs h.1)

pub following_more : {X : Type 0} (p : X → Bool) (xs ys : List X) → HasOne p xs → following p (xs ++ ys) ≡ following p xs ++ ys
following_more p [] ys h = absurd h
following_more p (x ∷ xs) ys (inl h) = rw h refl
following_more p (x ∷ xs) ys (inr h) = rw h.0 (following_more p xs ys h.1)

pub ahead_found : {X : Type 0} (p : X → Bool) (xs : List X) (x : X) → NoneOf p xs → p x ≡ true → ahead p (xs ++ x ∷ []) ≡ xs
ahead_found p [] x h e = rw e refl
ahead_found p (y ∷ ys) x h e = rw h.0 (ap (λ l. y ∷ l) (ahead_found p ys x h.1 e))

pub ahead_more : {X : Type 0} (p : X → Bool) (xs ys : List X) → HasOne p xs → ahead p (xs ++ ys) ≡ ahead p xs
ahead_more p [] ys h = absurd h
ahead_more p (x ∷ xs) ys (inl h) = rw h refl
ahead_more p (x ∷ xs) ys (inr h) = rw h.0 (ap (λ l. x ∷ l) (ahead_more p xs ys h.1))

pub any_has : {X : Type 0} (p : X → Bool) (xs : List X) → HasOne p xs → list_any p xs ≡ true
any_has p [] h = absurd h
any_has p (x ∷ xs) (inl h) = rw h refl
any_has p (x ∷ xs) (inr h) = rw h.0 (any_has p xs h.1)

pub any_none : {X : Type 0} (p : X → Bool) (xs : List X) → NoneOf p xs → list_any p xs ≡ true → ⊥
any_none p [] h e = let f : false ≡ true = e in cc
any_none p (x ∷ xs) h e = any_none p xs h.1 (rw h.0 at e)
