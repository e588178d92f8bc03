-- Two places that pass a test count twice.
use Rattle.std.proofs.Common.{◌≡◌, ◌≢◌, ℕ, ◌+◌, ◌<◌, ◌≤◌, Bool, true, false, cond, List, length, set, get_or, count_by, arith, refl, get_or-set_other, length-set}
use Rattle.std.proofs.lemmas.List.Sums.{sum_by-set, get_or-le-sum_by}

pub two-pass : {X : Type 0} (p : X → Bool) (xs : List X) (i j : ℕ) (d : X) → p d ≡ false → i < length xs → j < length xs → j ≢ i → p (get_or xs i d) ≡ true → p (get_or xs j d) ≡ true → 2 ≤ count_by p xs
two-pass {X} p xs i j d none low high differ h k =
    let one = sum_by-set (λ x. cond (p x) 1 0) xs i d d low in
    let less : count_by p (set xs i d) + 1 ≡ count_by p xs + 0 = rw (h, none) at one in
    let longer : j < length (set xs i d) = rw length-set high in
    let left = get_or-le-sum_by (λ x. cond (p x) 1 0) (set xs i d) j d longer in
    let other : get_or (set xs i d) j d ≡ get_or xs j d = rw get_or-set_other refl in
    let some : 1 ≤ count_by p (set xs i d) = rw (other, k) at left in
    omega (arith, less, some)
