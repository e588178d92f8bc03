-- Sums over lists with one element replaced or one more taken.
use Rattle.std.proofs.Common.{◌≡◌, ℕ, ◌+◌, ◌*◌, ◌-◌, ◌%◌, ◌^◌, ◌<◌, List, [], ◌∷◌, zero, suc, get_or, set, take, length, arith}
use Rattle.shogi_board.specs.Keys.{sum_from}

-- one element replaced: what it counted goes, what the new one counts comes
pub sum_from-set : {X : Type 0} (f : ℕ → X → ℕ) (n : ℕ) (xs : List X) (i m : ℕ) (y d : X) → m ≡ n + i → i < length xs → sum_from f n (set xs i y) + f m (get_or xs i d) ≡ sum_from f n xs + f m y
sum_from-set f n [] i m y d e h = absurd (omega (arith, h))
sum_from-set f n (x ∷ xs) zero m y d e h = let here : m ≡ n = omega (arith, e) in rw here (omega arith)
sum_from-set f n (x ∷ xs) (suc i) m y d e h = omega (arith, sum_from-set f (n + 1) xs i m y d (omega (arith, e)) (omega (arith, h)))

-- one more element taken
pub sum_from-more : {X : Type 0} (f : ℕ → X → ℕ) (n : ℕ) (xs : List X) (i m : ℕ) (d : X) → m ≡ n + i → i < length xs → sum_from f n (take (suc i) xs) ≡ sum_from f n (take i xs) + f m (get_or xs i d)
sum_from-more f n [] i m d e h = absurd (omega (arith, h))
sum_from-more f n (x ∷ xs) zero m d e h = let here : m ≡ n = omega (arith, e) in rw here (omega arith)
sum_from-more f n (x ∷ xs) (suc i) m d e h = omega (arith, sum_from-more f (n + 1) xs i m d (omega (arith, e)) (omega (arith, h)))

pub sum_from-step : {X : Type 0} (f : ℕ → X → ℕ) (xs : List X) (i : ℕ) (d : X) → i < length xs → sum_from f 0 (take (i + 1) xs) ≡ sum_from f 0 (take i xs) + f i (get_or xs i d)
sum_from-step f xs i d h = let e : i + 1 ≡ suc i = omega arith in rw e (sum_from-more f 0 xs i i d (omega arith) h)

pub grown : (key sum next more : ℕ) → sum % 2 ^ 64 ≡ key → next ≡ sum + more → next % 2 ^ 64 ≡ (key + more) % 2 ^ 64
grown key sum next more e h = omega (arith, e, h)

pub shrunk : (key sum next less : ℕ) → sum % 2 ^ 64 ≡ key → next + less ≡ sum → less < 2 ^ 64 → next % 2 ^ 64 ≡ (key + (2 ^ 64 - less)) % 2 ^ 64
shrunk key sum next less e h b = omega (arith, e, h, b)

product-less : (h v : ℕ) → 0 < v → h * (v - 1) + h ≡ h * v
product-less h zero p = absurd (omega (arith, p))
product-less h (suc v) p = let e : suc v - 1 ≡ v = omega arith in rw e (omega arith)

-- one more, and one less, of the i-th of counts that are each weighed by their place
pub sum_from-gain : (h : ℕ → ℕ) (xs : List ℕ) (i : ℕ) → i < length xs → sum_from (λ p n. h p * n) 0 (set xs i (get_or xs i 0 + 1)) ≡ sum_from (λ p n. h p * n) 0 xs + h i
sum_from-gain h xs i within =
    let put = sum_from-set (λ p n. h p * n) 0 xs i i (get_or xs i 0 + 1) 0 (omega arith) within in
    omega (arith, put)

pub sum_from-lose : (h : ℕ → ℕ) (xs : List ℕ) (i : ℕ) → i < length xs → 0 < get_or xs i 0 → sum_from (λ p n. h p * n) 0 (set xs i (get_or xs i 0 - 1)) + h i ≡ sum_from (λ p n. h p * n) 0 xs
sum_from-lose h xs i within some =
    let put = sum_from-set (λ p n. h p * n) 0 xs i i (get_or xs i 0 - 1) 0 (omega arith) within in
    omega (arith, put, product-less (h i) (get_or xs i 0) some)

pub grown_by-product : (key sum next more : ℕ) → sum % 2 ^ 64 ≡ key → next ≡ sum + more → next % 2 ^ 64 ≡ (key + more % 2 ^ 64) % 2 ^ 64
grown_by-product key sum next more e h = omega (arith, e, h)
