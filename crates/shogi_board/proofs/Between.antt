-- In which direction and how far away a square lies, and which squares lie on the way.
use Rattle.std.proofs.Common.{◌≡◌, ℕ, ◌+◌, ◌-◌, ◌*◌, ◌<◌, ◌≤◌, ◌⊎◌, inl, inr, arith, ap, sym, subst, refl, ◌∙◌}
use Rattle.std.proofs.lemmas.Bool.{cases_eq, cases_lt}
use Rattle.shogi_board.specs.Directions.{IsDirection, IsInLine}
use Rattle.shogi_board.specs.Moves.{IsRay, to}
use Rattle.shogi_board.specs.Squares.{Direction, IsAway}
use Rattle.shogi_board.specs.declared.square.Square.{Square}

pub three : (P : ℕ → Type 0) → P 1 → P 2 → P 3 → (n : ℕ) → 1 ≤ n → n ≤ 3 → P n
three P a b c n low high =
    elim (cases_lt n 2) [
      | inl lt ↦ let e : 1 ≡ n = omega arith in subst P e a
      | inr ge ↦ elim (cases_lt 2 n) [
        | inl lt ↦ let e : 3 ≡ n = omega arith in subst P e c
        | inr le ↦ let e : 2 ≡ n = omega arith in subst P e b
      ]
    ]

-- where a number stands n steps on
abbrev pub Offset : ℕ → ℕ → ℕ → ℕ → Type 0
Offset x y n f = ((f ≡ 1) × (y + n ≡ x)) ⊎ (((f ≡ 2) × (y ≡ x)) ⊎ ((f ≡ 3) × (y ≡ x + n)))

pub offset : (x y n f : ℕ) → 1 ≤ f → f ≤ 3 → y + n * 2 ≡ x + n * f → Offset x y n f
offset x y n f low high h =
    three (λ g. y + n * 2 ≡ x + n * g → Offset x y n g)
    (λ e. inl (refl, omega (arith, e))) (λ e. inr (inl (refl, omega (arith, e)))) (λ e. inr (inr (refl, omega (arith, e)))) f low high h

pub step-back : (x y n f : ℕ) → y < x → 1 ≤ f → f ≤ 3 → 1 ≤ n → y + n * 2 ≡ x + n * f → 1 ≡ f
step-back x y n f less low high some h = let o = offset x y n f low high h in grind (arith, o)

pub step-level : (x y n f : ℕ) → y ≡ x → 1 ≤ f → f ≤ 3 → 1 ≤ n → y + n * 2 ≡ x + n * f → 2 ≡ f
step-level x y n f same low high some h = let o = offset x y n f low high h in grind (arith, o)

pub step-on : (x y n f : ℕ) → x < y → 1 ≤ f → f ≤ 3 → 1 ≤ n → y + n * 2 ≡ x + n * f → 3 ≡ f
step-on x y n f more low high some h = let o = offset x y n f low high h in grind (arith, o)

gap-low : (x y n f g : ℕ) → 1 ≤ f → f ≤ 3 → y + n * 2 ≡ x + n * f → g ≡ x - y + (y - x) → g ≤ n
gap-low x y n f g low high h is = let o = offset x y n f low high h in grind (arith, o)

gap-is : (x y n f g : ℕ) → 1 ≤ f → f ≤ 3 → (f ≡ 2 → ⊥) → y + n * 2 ≡ x + n * f → g ≡ x - y + (y - x) → g ≡ n
gap-is x y n f g low high not h is = let o = offset x y n f low high h in grind (arith, o)

-- one of the two gaps is the distance, and neither is more
pub record Apart (g h n : ℕ) : Type 0 where
  pub files : g ≤ n
  pub ranks : h ≤ n
  pub one : (g ≡ n) ⊎ (h ≡ n)

pub apart : (a b : Square) (d : Direction) (n g h : ℕ) → IsRay d → IsAway a d n b → g ≡ a.file - b.file + (b.file - a.file) → h ≡ a.rank - b.rank + (b.rank - a.rank) → Apart g h n
apart a b d n g h ray away i j = record {
  files = gap-low a.file b.file n d.files g ray.0 ray.1 away.0 i;
  ranks = gap-low a.rank b.rank n d.ranks h ray.2 ray.3 away.1 j;
  one = elim (cases_eq d.files 2) [
    | inl e ↦ inr (gap-is a.rank b.rank n d.ranks h ray.2 ray.3 (ray.4 e) away.1 j)
    | inr not ↦ inl (gap-is a.file b.file n d.files g ray.0 ray.1 not away.0 i)
  ];
}

pub more : (g h n : ℕ) → g < h → Apart g h n → h ≡ n
more g h n lt a =
    let files = a.files in
    let ranks = a.ranks in
    elim a.one [ inl e ↦ omega (arith, e, lt, ranks) | inr e ↦ e ]

pub as-many : (g h n : ℕ) → h ≤ g → Apart g h n → g ≡ n
as-many g h n le a =
    let files = a.files in
    let ranks = a.ranks in
    elim a.one [ inl e ↦ e | inr e ↦ omega (arith, e, le, files) ]

pub direction-same : (d e : Direction) → d.files ≡ e.files → d.ranks ≡ e.ranks → d ≡ e
direction-same d e h k =
    let first : d ≡ to e.files d.ranks = ap (λ (n : ℕ). to n d.ranks) h in
    first ∙ ap (λ (n : ℕ). to e.files n) k

pub direction-is : (a c : Square) (d : Direction) (f r : ℕ) → d ≡ to f r
    → ((k s : ℕ) → 1 ≤ s → s ≤ 3 → 1 ≤ k → c.file + k * 2 ≡ a.file + k * s → f ≡ s)
    → ((k s : ℕ) → 1 ≤ s → s ≤ 3 → 1 ≤ k → c.rank + k * 2 ≡ a.rank + k * s → r ≡ s)
    → IsDirection a c d
direction-is a c d f r is files ranks e k ray some away =
    is ∙ direction-same (to f r) e (files k e.files ray.0 ray.1 some away.0) (ranks k e.ranks ray.2 ray.3 some away.1)

same-step : (x y n m f g : ℕ) → 1 ≤ f → f ≤ 3 → 1 ≤ g → g ≤ 3 → 1 ≤ n → 1 ≤ m → y + n * 2 ≡ x + n * f → y + m * 2 ≡ x + m * g → f ≡ g
same-step x y n m f g f1 f3 g1 g3 n1 m1 h k =
    elim (cases_lt y x) [
      | inl lt ↦ sym (step-back x y n f lt f1 f3 n1 h) ∙ step-back x y m g lt g1 g3 m1 k
      | inr ge ↦ elim (cases_lt x y) [
        | inl lt ↦ sym (step-on x y n f lt f1 f3 n1 h) ∙ step-on x y m g lt g1 g3 m1 k
        | inr le ↦
            let e : y ≡ x = omega (arith, ge, le) in
            sym (step-level x y n f e f1 f3 n1 h) ∙ step-level x y m g e g1 g3 m1 k
      ]
    ]

same-far : (g h n m : ℕ) → Apart g h n → Apart g h m → n ≡ m
same-far g h n m a b =
    elim (cases_lt g h) [
      | inl lt ↦ sym (more g h n lt a) ∙ more g h m lt b
      | inr ge ↦ sym (as-many g h n ge a) ∙ as-many g h m ge b
    ]

-- a square lies in one direction from another, and so far away
pub lies-once : (a b : Square) (d e : Direction) (n m : ℕ) → IsRay d → IsRay e → 1 ≤ n → 1 ≤ m → IsAway a d n b → IsAway a e m b → (d ≡ e) × (n ≡ m)
lies-once a b d e n m p q n1 m1 h k = (
  direction-same d e
      (same-step a.file b.file n m d.files e.files p.0 p.1 q.0 q.1 n1 m1 h.0 k.0)
      (same-step a.rank b.rank n m d.ranks e.ranks p.2 p.3 q.2 q.3 n1 m1 h.1 k.1),
  same-far _ _ n m (apart a b d n _ _ p h refl refl) (apart a b e m _ _ q k refl refl),
)

-- a step that leads from one number to another, which lies that far away
record Leads (x y n : ℕ) : Type 0 where
  step : ℕ
  low : 1 ≤ step
  high : step ≤ 3
  on : y + n * 2 ≡ x + n * step
  still : step ≡ 2 → n ≡ 0

leads : (x y n : ℕ) → n ≡ x - y + (y - x) → Leads x y n
leads x y n e =
    elim (cases_lt y x) [
      | inl lt ↦ record { step = 1; low = omega arith; high = omega arith; on = omega (arith, e, lt); still = λ h. omega (arith, h) }
      | inr ge ↦ elim (cases_lt x y) [
        | inl lt ↦ record { step = 3; low = omega arith; high = omega arith; on = omega (arith, e, lt); still = λ h. omega (arith, h) }
        | inr le ↦ record { step = 2; low = omega arith; high = omega arith; on = omega (arith, e, ge, le); still = λ _. omega (arith, e, ge, le) }
      ]
    ]

in-line-by : (a b : Square) (f r n : ℕ) → 1 ≤ f → f ≤ 3 → 1 ≤ r → r ≤ 3 → (f ≡ 2 → r ≡ 2 → n ≡ 0) → IsAway a (to f r) n b → IsInLine a b
in-line-by a b f r n f1 f3 r1 r3 still away =
    elim (cases_eq n 0) [
      | inl e ↦
          let here : IsAway a (to f r) 0 b = rw e at away in
          (to 2 1, 0, (omega arith, omega arith, omega arith, omega arith, λ _ h. omega (arith, h)), (omega (arith, here.0), omega (arith, here.1)))
      | inr some ↦ (to f r, n, (f1, f3, r1, r3, λ p q. some (still p q)), away)
    ]

pub same-file : (a b : Square) (h : ℕ) → a.file - b.file + (b.file - a.file) ≡ 0 → h ≡ a.rank - b.rank + (b.rank - a.rank) → IsInLine a b
same-file a b h e k =
    let l = leads a.rank b.rank h k in
    in-line-by a b 2 l.step h (omega arith) (omega arith) l.low l.high (λ _ s. l.still s) (omega (arith, e), l.on)

pub same-rank : (a b : Square) (g : ℕ) → g ≡ a.file - b.file + (b.file - a.file) → a.rank - b.rank + (b.rank - a.rank) ≡ 0 → IsInLine a b
same-rank a b g k e =
    let l = leads a.file b.file g k in
    in-line-by a b l.step 2 g l.low l.high (omega arith) (omega arith) (λ s _. l.still s) (l.on, omega (arith, e))

pub on-diagonal : (a b : Square) (g : ℕ) → g ≡ a.file - b.file + (b.file - a.file) → g ≡ a.rank - b.rank + (b.rank - a.rank) → IsInLine a b
on-diagonal a b g h k =
    let l = leads a.file b.file g h in
    let m = leads a.rank b.rank g k in
    in-line-by a b l.step m.step g l.low l.high m.low m.high (λ s _. l.still s) (l.on, m.on)

-- squares in line that differ in file and rank lie on a diagonal
pub as-far : (a b : Square) (g h : ℕ) → IsInLine a b → g ≡ a.file - b.file + (b.file - a.file) → h ≡ a.rank - b.rank + (b.rank - a.rank) → (g ≡ 0 → ⊥) → (h ≡ 0 → ⊥) → g ≡ h
as-far a b g h line i j files ranks =
    let d = line.0 in
    let n = line.1 in
    let ray = line.2 in
    let away = line.3 in
    gap-is a.file b.file n d.files g ray.0 ray.1 (λ e. files (let s : b.file + n * 2 ≡ a.file + n * 2 = rw e at away.0 in omega (arith, i, s))) away.0 i
    ∙ sym (gap-is a.rank b.rank n d.ranks h ray.2 ray.3 (λ e. ranks (let s : b.rank + n * 2 ≡ a.rank + n * 2 = rw e at away.1 in omega (arith, j, s))) away.1 j)

-- no knight's jump leads along a line
one-gap : (x y n f : ℕ) → Offset x y n f → (y + 1 ≡ x) ⊎ (y ≡ x + 1) → n ≡ 1
one-gap x y n f o g = grind arith

two-gap : (x y n f : ℕ) → Offset x y n f → (y + 2 ≡ x) ⊎ (y ≡ x + 2) → n ≡ 2
two-gap x y n f o g = grind arith

pub no-jump : (a b : Square) (d : Direction) (n : ℕ) → IsRay d → IsAway a d n b
    → (b.file + 1 ≡ a.file) ⊎ (b.file ≡ a.file + 1) → (b.rank + 2 ≡ a.rank) ⊎ (b.rank ≡ a.rank + 2) → ⊥
no-jump a b d n ray away files ranks =
    let one = one-gap a.file b.file n d.files (offset a.file b.file n d.files ray.0 ray.1 away.0) files in
    let two = two-gap a.rank b.rank n d.ranks (offset a.rank b.rank n d.ranks ray.2 ray.3 away.1) ranks in
    omega (arith, one, two)
