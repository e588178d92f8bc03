-- A look along a direction: how far the board goes on, and the places of the squares there.
use Rattle.std.proofs.Common.{◌≡◌, ℕ, ◌+◌, ◌-◌, ◌*◌, ◌<◌, ◌≤◌, arith, None, inl, inr, refl}
use Rattle.shogi_board.specs.Cells.{Cells, at}
use Rattle.shogi_board.specs.Moves.{IsRay}
use Rattle.shogi_board.specs.Reach.{InSight}
use Rattle.shogi_board.specs.Squares.{Direction, place, IsAway}
use Rattle.shogi_board.specs.declared.square.Square.{Square}
use Rattle.shogi_board.proofs.Between.{offset, three}

-- no square lies nine times a ray away
pub too-far : (a b : Square) (d : Direction) (m : ℕ) → IsRay d → 9 ≤ m → IsAway a d m b → ⊥
too-far a b d m ray far away =
    let i = a.on_board in
    let j = b.on_board in
    let x = offset a.file b.file m d.files ray.0 ray.1 away.0 in
    let y = offset a.rank b.rank m d.ranks ray.2 ray.3 away.1 in
    grind (arith, ray.4)

-- a number on the way from one number to another
way : (x y m n f : ℕ) → 1 ≤ f → f ≤ 3 → n ≤ m → y + m * 2 ≡ x + m * f → 1 ≤ x → x ≤ 9 → 1 ≤ y → y ≤ 9 → (z : ℕ) × (z + n * 2 ≡ x + n * f) × (1 ≤ z) × (z ≤ 9)
way x y m n f low high near h x1 x9 y1 y9 =
    three (λ g. y + m * 2 ≡ x + m * g → (z : ℕ) × (z + n * 2 ≡ x + n * g) × (1 ≤ z) × (z ≤ 9))
    (λ e. (x - n, omega (arith, e, near, y1), omega (arith, e, near, y1), omega (arith, x9)))
    (λ _. (x, omega arith, x1, x9))
    (λ e. (x + n, omega arith, omega (arith, x1), omega (arith, e, near, y9))) f low high h

-- each square up to one in that direction is on the board
pub on-the-way : (a b : Square) (d : Direction) (n m : ℕ) → IsRay d → n ≤ m → IsAway a d m b → (s : Square) × IsAway a d n s
on-the-way a b d n m ray near away =
    let i = a.on_board in
    let j = b.on_board in
    let x = way a.file b.file m n d.files ray.0 ray.1 near away.0 i.0 i.1 j.0 j.1 in
    let y = way a.rank b.rank m n d.ranks ray.2 ray.3 near away.1 i.2 i.3 j.2 j.3 in
    (record { file = x.0; rank = y.0; on_board = (x.2, x.3, y.2, y.3) }, (x.1, y.1))

-- so many steps lead from the number to 1 or 9, or they stay
pub record Room (x f room : ℕ) : Type 0 where
  pub back : f ≡ 1 → room + 1 ≡ x
  pub still : f ≡ 2 → room ≡ 8
  pub on : f ≡ 3 → x + room ≡ 9

last : (x f r : ℕ) → 1 ≤ f → f ≤ 3 → 1 ≤ x → x ≤ 9 → Room x f r → (y : ℕ) × (y + r * 2 ≡ x + r * f) × (1 ≤ y) × (y ≤ 9)
last x f r low high x1 x9 room =
    three (λ g. Room x g r → (y : ℕ) × (y + r * 2 ≡ x + r * g) × (1 ≤ y) × (y ≤ 9))
    (λ here. let k = here.back refl in (1, omega (arith, k), omega arith, omega arith))
    (λ _. (x, omega arith, x1, x9))
    (λ here. let k = here.on refl in (9, omega (arith, k), omega arith, omega arith)) f low high room

within : (x f r n : ℕ) → 1 ≤ f → f ≤ 3 → 1 ≤ x → x ≤ 9 → Room x f r → n ≤ r → (z : ℕ) × (z + n * 2 ≡ x + n * f) × (1 ≤ z) × (z ≤ 9)
within x f r n low high x1 x9 room near =
    let y = last x f r low high x1 x9 room in
    way x y.0 r n f low high near y.1 x1 x9 y.2 y.3

-- as far as there is room by file and by rank squares lie
pub in-room : (a : Square) (d : Direction) (f r n : ℕ) → IsRay d → Room a.file d.files f → Room a.rank d.ranks r → n ≤ f → n ≤ r → (s : Square) × IsAway a d n s
in-room a d f r n ray files ranks low high =
    let i = a.on_board in
    let x = within a.file d.files f n ray.0 ray.1 i.0 i.1 files low in
    let y = within a.rank d.ranks r n ray.2 ray.3 i.2 i.3 ranks high in
    (record { file = x.0; rank = y.0; on_board = (x.2, x.3, y.2, y.3) }, (x.1, y.1))

-- a square so far away in that direction stands at that place
abbrev pub AtPlace : Square → Direction → ℕ → ℕ → Type 0
AtPlace a d n p = (s : Square) × IsAway a d n s × (place s ≡ p)

pub at-first : (a : Square) (d : Direction) → AtPlace a d 0 (place a)
at-first a d = (a, (omega arith, omega arith), refl)

one-more : (y z x m n f : ℕ) → n ≡ m + 1 → y + m * 2 ≡ x + m * f → z + n * 2 ≡ x + n * f → z + 2 ≡ y + f
one-more y z x m n f e h k = let g : z + (m + 1) * 2 ≡ x + (m + 1) * f = rw (← e) k in omega (arith, h, g)

-- with each step the place grows by as much
pub place-next : (a t : Square) (d : Direction) (n p : ℕ) → 1 ≤ n → IsAway a d n t → AtPlace a d (n - 1) p → place t + 20 ≡ p + (d.files * 9 + d.ranks)
place-next a t d n p some away seat =
    let s = seat.0 in
    let i = s.on_board in
    let j = t.on_board in
    let e : n ≡ (n - 1) + 1 = omega (arith, some) in
    let files = one-more s.file t.file a.file (n - 1) n d.files e seat.1.0 away.0 in
    let ranks = one-more s.rank t.rank a.rank (n - 1) n d.ranks e seat.1.1 away.1 in
    let here = seat.2 in
    omega (arith, files, ranks, here)

-- the next square of those up to one, and its place
pub next : (a b : Square) (d : Direction) (n m p : ℕ) → IsRay d → 1 ≤ n → n < m → IsAway a d m b → AtPlace a d (n - 1) p → (t : Square) × IsAway a d n t × (place t + 20 ≡ p + (d.files * 9 + d.ranks))
next a b d n m p ray some less away seat =
    let t = on-the-way a b d n m ray (omega (arith, less)) away in
    (t.0, t.1, place-next a t.0 d n p some t.1 seat)

-- where the place of a square is known, it is the place one step on
pub seat-on : (a t : Square) (d : Direction) (n p : ℕ) → IsAway a d n t → place t ≡ p → AtPlace a d (n + 1 - 1) p
seat-on a t d n p away e = let same : n + 1 - 1 ≡ n = omega arith in rw same (t, away, e)

-- what is seen on one board is seen on another, if the squares that are empty there are empty here
pub same-sight : (cells others : Cells) (a b : Square) (d : Direction) → ((s : Square) → at cells s ≡ None → at others s ≡ None) → InSight cells a d b → InSight others a d b
same-sight cells others a b d empty sight = record {
  distance = sight.distance;
  some = sight.some;
  away = sight.away;
  clear = λ k s low high away. empty s (sight.clear k s low high away);
}
