-- Every step and every ray is near, and a ray goes one square at a time.
use Rattle.std.proofs.Common.{◌≡◌, ◌↔◌, ◌&&◌, ◌||◌, IsTrue, Bool, true, false, ℕ, zero, suc, ◌<◌, ◌≤◌, List, [], ◌∷◌, length, get_or, arith, lit≤, refl, sym, ap, ◌∙◌, nat_eq, Contains, ◌⊎◌, inl, inr}
use Rattle.std.proofs.lemmas.Bool.{and_from, and_parts, eq-eqb, eqb-true, or_cases, or_left, or_right}
use Rattle.shogi_board.proofs.Between.{direction-same, three}
use Rattle.shogi_board.specs.Moves.{steps, rays, turned_for, IsRay, to, forward, back, left, right, forward_left, forward_right, back_left, back_right, orthogonals, diagonals, gold}
use Rattle.shogi_board.specs.Directions.{IsNear}
use Rattle.shogi_board.specs.declared.color.Color.{Color}
use Rattle.shogi_board.specs.declared.color.Color.TheVariants.{Black, White}
use Rattle.shogi_board.specs.Squares.{Direction}
use Rattle.shogi_board.specs.declared.kind.Kind.{Kind}
use Rattle.shogi_board.specs.declared.kind.Kind.TheVariants.{Pawn, Lance, Knight, Silver, Bishop, Rook, King, Horse, Dragon}

abbrev pub Every : (Direction → Type 0) → List Direction → Type 0
Every P [] = Unit {0}
Every P (d ∷ ds) = P d × Every P ds

pub every-at : (P : Direction → Type 0) (ds : List Direction) (k : ℕ) (d : Direction) → Every P ds → k < length ds → get_or ds k d ≡ d → P d
every-at P [] k d h lt e = absurd (omega arith)
every-at P (x ∷ xs) zero d h lt e = rw (← e) h.0
every-at P (x ∷ xs) (suc k) d h lt e = every-at P xs k d h.1 (omega arith) e

four : (a b c d : Direction) → IsRay a → IsRay b → IsRay c → IsRay d → Every IsRay (a ∷ b ∷ c ∷ d ∷ [])
four a b c d h i j k = (h, (i, (j, (k, tt))))

every-orthogonal : Every IsRay orthogonals
every-orthogonal =
    four forward back left right (lit≤ tt, lit≤ tt, lit≤ tt, lit≤ tt, λ _ h. omega (arith, h)) (lit≤ tt, lit≤ tt, lit≤ tt, lit≤ tt, λ _ h. omega (arith, h))
    (lit≤ tt, lit≤ tt, lit≤ tt, lit≤ tt, λ h _. omega (arith, h)) (lit≤ tt, lit≤ tt, lit≤ tt, lit≤ tt, λ h _. omega (arith, h))

every-diagonal : Every IsRay diagonals
every-diagonal =
    four forward_left forward_right back_left back_right (lit≤ tt, lit≤ tt, lit≤ tt, lit≤ tt, λ h _. omega (arith, h)) (lit≤ tt, lit≤ tt, lit≤ tt, lit≤ tt, λ h _. omega (arith, h))
    (lit≤ tt, lit≤ tt, lit≤ tt, lit≤ tt, λ h _. omega (arith, h)) (lit≤ tt, lit≤ tt, lit≤ tt, lit≤ tt, λ h _. omega (arith, h))

pub every-ray : (k : Kind) → Every IsRay (rays k)
every-ray Lance = (every-orthogonal.0, tt)
every-ray Bishop = every-diagonal
every-ray Rook = every-orthogonal
every-ray Horse = every-diagonal
every-ray Dragon = every-orthogonal
every-ray _ = tt

every-gold : Every IsRay gold
every-gold =
    let o = every-orthogonal in
    let d = every-diagonal in
    (o.0, (o.1.0, (o.1.1.0, (o.1.1.1.0, (d.0, (d.1.0, tt))))))

-- each step of a piece but the knight's goes one square in one of the eight directions
pub every-step : (k : Kind) → Every IsRay (steps k) ⊎ (k ≡ Knight)
every-step Pawn = inl (every-orthogonal.0, tt)
every-step Lance = inl tt
every-step Knight = inr refl
every-step Silver = inl (every-orthogonal.0, every-diagonal)
every-step Bishop = inl tt
every-step Rook = inl tt
every-step King =
    let o = every-orthogonal in
    inl (o.0, (o.1.0, (o.1.1.0, (o.1.1.1.0, every-diagonal))))
every-step Horse = inl every-orthogonal
every-step Dragon = inl every-diagonal
every-step _ = inl every-gold

-- whether one of the directions has these files and ranks
abbrev pub has : List Direction → ℕ → ℕ → Bool
has [] f r = false
has (d ∷ ds) f r = (nat_eq d.files f && nat_eq d.ranks r) || has ds f r

contains-has : (ds : List Direction) (d : Direction) (k : ℕ) → k < length ds → get_or ds k d ≡ d → has ds d.files d.ranks ≡ true
contains-has [] d k lt e = absurd (omega arith)
contains-has (x ∷ xs) d zero lt e =
    or_left _ _ (and_from _ _ (eq-eqb _ _ (ap (λ (y : Direction). y.files) e)) (eq-eqb _ _ (ap (λ (y : Direction). y.ranks) e)))
contains-has (x ∷ xs) d (suc k) lt e = or_right _ _ (contains-has xs d k (omega arith) e)

has-contains : (ds : List Direction) (d : Direction) → has ds d.files d.ranks ≡ true → Contains ds d
has-contains [] d h = cc
has-contains (x ∷ xs) d h =
    elim (or_cases _ _ h) [
      | inl e ↦
          let p = and_parts _ _ e in
          (0, omega arith, direction-same x d (eqb-true _ _ p.0) (eqb-true _ _ p.1))
      | inr e ↦ let c = has-contains xs d e in (suc c.0, omega (arith, c.1), c.2)
    ]

-- the tests say the same of each of the eight directions
abbrev pub Agree : (ℕ → ℕ → Bool) → (ℕ → ℕ → Bool) → Type 0
Agree p q =
    (p 1 1 ≡ q 1 1) × (p 1 2 ≡ q 1 2) × (p 1 3 ≡ q 1 3) × (p 2 1 ≡ q 2 1) × (p 2 3 ≡ q 2 3) × (p 3 1 ≡ q 3 1) × (p 3 2 ≡ q 3 2) × (p 3 3 ≡ q 3 3)

agree : (p q : ℕ → ℕ → Bool) → Agree p q → (f r : ℕ) → 1 ≤ f → f ≤ 3 → 1 ≤ r → r ≤ 3 → (f ≡ 2 → r ≡ 2 → ⊥) → p f r ≡ q f r
agree p q a f r f1 f3 r1 r3 moves =
    three (λ f. (f ≡ 2 → r ≡ 2 → ⊥) → p f r ≡ q f r)
    (λ _. three (λ r. p 1 r ≡ q 1 r) a.0 a.1 a.2 r r1 r3)
    (λ still. three (λ r. (r ≡ 2 → ⊥) → p 2 r ≡ q 2 r) (λ _. a.3) (λ h. absurd (h refl)) (λ _. a.4) r r1 r3 (still refl))
    (λ _. three (λ r. p 3 r ≡ q 3 r) a.5 a.6 a.7 r r1 r3)
    f f1 f3 moves

-- a test that agrees with a list on the eight directions says whether the list contains one of them
pub member : (test : ℕ → ℕ → Bool) (ds : List Direction) (d : Direction) (b : Bool) → Agree test (has ds) → IsRay d → b ≡ test d.files d.ranks → IsTrue b ↔ Contains ds d
member test ds d b a ray is =
    let same = is ∙ agree test (has ds) a d.files d.ranks ray.0 ray.1 ray.2 ray.3 ray.4 in
    (λ yes. has-contains ds d (sym same ∙ yes), λ c. same ∙ contains-has ds d c.0 c.1 c.2)

pub turned-ray : (c : Color) (d : Direction) → IsRay d → IsRay (turned_for c d)
turned-ray Black d h = h
turned-ray White d h =
    let a : 1 ≤ d.files = h.0 in
    let b : d.files ≤ 3 = h.1 in
    let e : 1 ≤ d.ranks = h.2 in
    let f : d.ranks ≤ 3 = h.3 in
    (omega arith, omega arith, omega arith, omega arith, λ p q. h.4 (omega arith) (omega arith))

-- a ray of a piece, as its side sees it, is a ray
pub ray-at : (c : Color) (kind : Kind) (k : ℕ) (d : Direction) → k < length (rays kind) → get_or (rays kind) k d ≡ d → IsRay (turned_for c d)
ray-at c kind k d lt e = turned-ray c d (every-at IsRay (rays kind) k d (every-ray kind) lt e)

pub ray-near : (d : Direction) → IsRay d → IsNear d
ray-near d ray =
    let files : d.files ≤ 3 = ray.1 in
    let ranks : d.ranks ≤ 3 = ray.3 in
    (omega arith, omega arith)

-- a step or ray of a piece goes at most two squares along files and ranks
pub near-step : (kind : Kind) (k : ℕ) (d : Direction) → k < length (steps kind) → get_or (steps kind) k d ≡ d → IsNear d
near-step kind k d lt e =
    elim (every-step kind) [
      | inl all ↦ ray-near d (every-at IsRay (steps kind) k d all lt e)
      | inr knight ↦ every-at IsNear (steps Knight) k d ((lit≤ tt, lit≤ tt), ((lit≤ tt, lit≤ tt), tt)) (rw knight at lt) (rw knight at e)
    ]

pub near-ray : (kind : Kind) (k : ℕ) (d : Direction) → k < length (rays kind) → get_or (rays kind) k d ≡ d → IsNear d
near-ray kind k d lt e = ray-near d (every-at IsRay (rays kind) k d (every-ray kind) lt e)
