-- Each statement on a board holds or does not: whether a piece reaches a square, whether a king is
-- in check.
use Rattle.std.proofs.Common.{◌≡◌, ℕ, zero, suc, ◌+◌, ◌/◌, ◌%◌, ◌<◌, ◌≤◌, ◌⊎◌, inl, inr, Bool, true, false, List, [], ◌∷◌, Option, Some, None, Any, arith, get_or, lit≤, refl, sym, ◌∙◌, subst}
use Rattle.std.specs.Bool.{Decides}
use Rattle.std.proofs.lemmas.Bool.{cases_lt, cases_eq}
use Rattle.shogi_board.specs.Cells.{Cells, at, piece, HasPawnOnFile}
use Rattle.shogi_board.specs.Keys.{kind_number}
use Rattle.shogi_board.specs.Moves.{steps, rays, turned_for, IsRay}
use Rattle.shogi_board.specs.Pieces.{opponent}
use Rattle.shogi_board.specs.Reach.{Steps, IsClear, InSight, Slides, Reach, Attack, Attacked, InCheck}
use Rattle.shogi_board.specs.Squares.{Direction, place, file_of, IsAway}
use Rattle.shogi_board.specs.declared.color.Color.{Color}
use Rattle.shogi_board.specs.declared.kind.Kind.{Kind}
use Rattle.shogi_board.specs.declared.kind.Kind.TheVariants.{Pawn, Lance, Knight, Silver, Gold, Bishop, Rook, King, ProPawn, ProLance, ProKnight, ProSilver, Horse, Dragon}
use Rattle.shogi_board.specs.declared.kind.Piece.{Piece}
use Rattle.shogi_board.specs.declared.square.Square.{Square}
use Rattle.shogi_board.proofs.Rays.{Every, every-ray, turned-ray}
use Rattle.shogi_board.proofs.OneOf.{OneOf, one-of, any-of}
use Rattle.shogi_board.proofs.Pieces.{mover-is}
use Rattle.shogi_board.proofs.Same.{cell-eq, color-eq}
use Rattle.shogi_board.proofs.Sight.{too-far}
use Rattle.shogi_board.proofs.Squares.{place-same, place-bound}

-- it holds, or it does not
abbrev pub Decision : Type 0 → Type 0
Decision P = P ⊎ (P → ⊥)

pub decide-as : (P Q : Type 0) → (P → Q) → (Q → P) → Decision P → Decision Q
decide-as P Q to from (inl p) = inl (to p)
decide-as P Q to from (inr none) = inr (λ q. none (from q))

pub decide-both : (P Q : Type 0) → Decision P → Decision Q → Decision (P × Q)
decide-both P Q (inl p) (inl q) = inl (p, q)
decide-both P Q (inl p) (inr none) = inr (λ h. none h.1)
decide-both P Q (inr none) d = inr (λ h. none h.0)

pub decide-either : (P Q : Type 0) → Decision P → Decision Q → Decision (P ⊎ Q)
decide-either P Q (inl p) d = inl (inl p)
decide-either P Q (inr none) (inl q) = inl (inr q)
decide-either P Q (inr none) (inr nor) = inr (λ h. elim h [ inl p ↦ none p | inr q ↦ nor q ])

pub decide-implies : (P Q : Type 0) → Decision P → Decision Q → Decision (P → Q)
decide-implies P Q d (inl q) = inl (λ _. q)
decide-implies P Q (inl p) (inr none) = inr (λ h. none (h p))
decide-implies P Q (inr none) (inr nor) = inl (λ p. absurd (none p))

pub decide-not : (P : Type 0) → Decision P → Decision (P → ⊥)
decide-not P (inl p) = inr (λ h. h p)
decide-not P (inr none) = inl none

pub decide-by : (b : Bool) (P : Type 0) → Decides b P → Decision P
decide-by true P d = inl (d.0 refl)
decide-by false P d = inr (λ p. let e = d.1 p in cc)

-- a number below a bound
abbrev pub Below : (ℕ → Type 0) → ℕ → Type 0
Below P n = (k : ℕ) × (k < n) × P k

below-more : (P : ℕ → Type 0) (n : ℕ) → Decision (P n) → Decision (Below P n) → Decision (Below P (suc n))
below-more P n (inl here) d = inl (n, omega arith, here)
below-more P n (inr none) (inl found) = inl (found.0, omega (arith, found.1), found.2)
below-more P n (inr none) (inr before) = inr (λ h.
    elim (cases_lt h.0 n) [
      | inl lt ↦ before (h.0, lt, h.2)
      | inr ge ↦ let e : h.0 ≡ n = omega (arith, h.1, ge) in none (subst P e h.2)
    ])

pub decide-below : (P : ℕ → Type 0) (n : ℕ) → ((k : ℕ) → Decision (P k)) → Decision (Below P n)
decide-below P zero each = inr (λ h. omega (arith, h.1))
decide-below P (suc n) each = below-more P n (each n) (decide-below P n each)

-- the square at a place
square-at : (n : ℕ) → n < 81 → (s : Square) × (place s ≡ n)
square-at n low = (record { file = n / 9 + 1; rank = n % 9 + 1; on_board = (omega arith, omega arith, omega arith, omega arith) }, omega arith)

abbrev AtPlace : (Square → Type 0) → ℕ → Type 0
AtPlace P n = (s : Square) × (place s ≡ n) × P s

at-found : (P : Square → Type 0) (n : ℕ) (s : Square) → place s ≡ n → Decision (P s) → Decision (AtPlace P n)
at-found P n s e (inl h) = inl (s, e, h)
at-found P n s e (inr none) = inr (λ h. none (subst P (place-same h.0 s (h.1 ∙ sym e)) h.2))

decide-place : (P : Square → Type 0) → ((s : Square) → Decision (P s)) → (n : ℕ) → Decision (AtPlace P n)
decide-place P each n =
    elim (cases_lt n 81) [
      | inl low ↦ let s = square-at n low in at-found P n s.0 s.1 (each s.0)
      | inr high ↦ inr (λ h. let low = place-bound h.0 in omega (arith, low, high, h.1))
    ]

-- some square has it
pub decide-square : (P : Square → Type 0) → ((s : Square) → Decision (P s)) → Decision ((s : Square) × P s)
decide-square P each =
    decide-as (Below (AtPlace P) 81) ((s : Square) × P s)
    (λ h. (h.2.0, h.2.2))
    (λ h. (place h.0, place-bound h.0, (h.0, refl, h.1)))
    (decide-below (AtPlace P) 81 (decide-place P each))

abbrev all_kinds : List Kind
all_kinds = Pawn ∷ Lance ∷ Knight ∷ Silver ∷ Gold ∷ Bishop ∷ Rook ∷ King ∷ ProPawn ∷ ProLance ∷ ProKnight ∷ ProSilver ∷ Horse ∷ Dragon ∷ []

kind-at : ℕ → Kind
kind-at n = get_or all_kinds n Pawn

kind-there : (k : Kind) → (kind_number k < 14) × (kind-at (kind_number k) ≡ k)
unfolding kind-at
kind-there Pawn = (lit≤ tt, refl)
kind-there _ = (lit≤ tt, refl)

decide-one-of : {X : Type 0} (P : X → Type 0) (xs : List X) → ((x : X) → Decision (P x)) → Decision (OneOf P xs)
decide-one-of P [] each = inr (λ h. elim h [ ])
decide-one-of P (x ∷ xs) each = decide-either (P x) (OneOf P xs) (each x) (decide-one-of P xs each)

-- some kind has it
pub decide-kind : (P : Kind → Type 0) → ((k : Kind) → Decision (P k)) → Decision ((k : Kind) × P k)
decide-kind P each =
    decide-as (Below (λ n. P (kind-at n)) 14) ((k : Kind) × P k)
    (λ h. (kind-at h.0, h.2))
    (λ h. let there = kind-there h.0 in (kind_number h.0, there.0, subst P (sym there.1) h.1))
    (decide-below (λ n. P (kind-at n)) 14 (λ n. each (kind-at n)))

pub decide-color : (a b : Color) → Decision (a ≡ b)
decide-color a b = decide-by _ (a ≡ b) (color-eq a b)

pub decide-cell : (a b : Option Piece) → Decision (a ≡ b)
decide-cell a b = decide-by _ (a ≡ b) (cell-eq a b)

pub decide-pawn_on_file : (cells : Cells) (color : Color) (s : Square) → Decision (HasPawnOnFile cells color s)
decide-pawn_on_file cells color s =
    decide-as ((t : Square) × ((file_of t ≡ file_of s) × (at cells t ≡ piece color Pawn))) (HasPawnOnFile cells color s)
    (λ h. (h.0, h.1.0, h.1.1))
    (λ h. (h.0, (h.1, h.2)))
    (decide-square (λ t. (file_of t ≡ file_of s) × (at cells t ≡ piece color Pawn))
    (λ t. decide-both _ _ (cases_eq (file_of t) (file_of s)) (decide-cell (at cells t) (piece color Pawn))))

pub decide-away : (a : Square) (d : Direction) (n : ℕ) (b : Square) → Decision (IsAway a d n b)
decide-away a d n b = decide-both _ _ (cases_eq _ _) (cases_eq _ _)

decide-steps : (p : Piece) (a b : Square) → Decision (Steps p a b)
decide-steps p a b =
    let P : Direction → Type 0 = λ d. IsAway a (turned_for p.color d) 1 b in
    decide-as (OneOf P (steps p.kind)) (Any P (steps p.kind)) (any-of P (steps p.kind)) (one-of P (steps p.kind))
    (decide-one-of P (steps p.kind) (λ d. decide-away a (turned_for p.color d) 1 b))

-- a piece stands k steps along the direction
abbrev Blocked : Cells → Square → Direction → ℕ → Type 0
Blocked cells a d k = (1 ≤ k) × ((s : Square) × (IsAway a d k s × (at cells s ≡ None → ⊥)))

at-least-one : (k : ℕ) → Decision (1 ≤ k)
at-least-one zero = inr (λ h. omega (arith, h))
at-least-one (suc k) = inl (omega arith)

decide-blocked : (cells : Cells) (a : Square) (d : Direction) (k : ℕ) → Decision (Blocked cells a d k)
decide-blocked cells a d k =
    decide-both _ _ (at-least-one k)
    (decide-square (λ s. IsAway a d k s × (at cells s ≡ None → ⊥)) (λ s. decide-both _ _ (decide-away a d k s) (decide-not _ (decide-cell (at cells s) None))))

clear-from : (cells : Cells) (a : Square) (d : Direction) (n : ℕ) → Decision (Below (Blocked cells a d) n) → Decision (IsClear cells a d n)
clear-from cells a d n (inl b) = inr (λ clear. b.2.1.1.1 (clear b.0 b.2.1.0 b.2.0 b.1 b.2.1.1.0))
clear-from cells a d n (inr none) = inl (λ k s low high away.
    elim (decide-cell (at cells s) None) [
      | inl empty ↦ empty
      | inr holds ↦ absurd (none (k, high, (low, (s, (away, holds)))))
    ])

decide-clear : (cells : Cells) (a : Square) (d : Direction) (n : ℕ) → Decision (IsClear cells a d n)
decide-clear cells a d n = clear-from cells a d n (decide-below (Blocked cells a d) n (decide-blocked cells a d))

-- b is seen at that distance
abbrev SeenAt : Cells → Square → Direction → Square → ℕ → Type 0
SeenAt cells a d b n = (1 ≤ n) × (IsAway a d n b × IsClear cells a d n)

seen-near : (cells : Cells) (a : Square) (d : Direction) (b : Square) → IsRay d → InSight cells a d b → Below (SeenAt cells a d b) 9
seen-near cells a d b ray sight =
    elim (cases_lt sight.distance 9) [
      | inl low ↦ (sight.distance, low, (sight.some, (sight.away, sight.clear)))
      | inr far ↦ absurd (too-far a b d sight.distance ray far sight.away)
    ]

decide-sight : (cells : Cells) (a : Square) (d : Direction) (b : Square) → IsRay d → Decision (InSight cells a d b)
decide-sight cells a d b ray =
    decide-as (Below (SeenAt cells a d b) 9) (InSight cells a d b)
    (λ h. record { distance = h.0; some = h.2.0; away = h.2.1.0; clear = h.2.1.1 })
    (seen-near cells a d b ray)
    (decide-below (SeenAt cells a d b) 9 (λ n. decide-both _ _ (at-least-one n) (decide-both _ _ (decide-away a d n b) (decide-clear cells a d n))))

sight-on-ray : (cells : Cells) (color : Color) (a b : Square) (ds : List Direction) → Every IsRay ds → Decision (OneOf (λ d. InSight cells a (turned_for color d) b) ds)
sight-on-ray cells color a b [] every = inr (λ h. elim h [ ])
sight-on-ray cells color a b (d ∷ ds) every =
    decide-either _ _ (decide-sight cells a (turned_for color d) b (turned-ray color d every.0)) (sight-on-ray cells color a b ds every.1)

decide-slides : (cells : Cells) (p : Piece) (a b : Square) → Decision (Slides cells p a b)
decide-slides cells p a b =
    let P : Direction → Type 0 = λ d. InSight cells a (turned_for p.color d) b in
    decide-as (OneOf P (rays p.kind)) (Any P (rays p.kind)) (any-of P (rays p.kind)) (one-of P (rays p.kind))
    (sight-on-ray cells p.color a b (rays p.kind) (every-ray p.kind))

reach-from : (cells : Cells) (a b : Square) (p : Piece) → at cells a ≡ Some p → Decision (Steps p a b ⊎ Slides cells p a b) → Decision (Reach cells a b)
reach-from cells a b p stands (inl moves) = inl (record { mover = p; stands = stands; moves = moves })
reach-from cells a b p stands (inr none) = inr (λ r.
    let e = mover-is cells a b p stands r in
    none (rw e at r.moves))

reach-of : (cells : Cells) (a b : Square) (cell : Option Piece) → at cells a ≡ cell → Decision (Reach cells a b)
reach-of cells a b None e = inr (λ r. let f : None ≡ Some r.mover = sym e ∙ r.stands in cc)
reach-of cells a b (Some p) e = reach-from cells a b p e (decide-either _ _ (decide-steps p a b) (decide-slides cells p a b))

-- whether the piece on a reaches b
pub decide-reach : (cells : Cells) (a b : Square) → Decision (Reach cells a b)
decide-reach cells a b = reach-of cells a b (at cells a) refl

attack-from : (cells : Cells) (color : Color) (a b : Square) → Decision (Reach cells a b) → Decision (Attack cells color a b)
attack-from cells color a b (inr none) = inr (λ h. none h.reach)
attack-from cells color a b (inl r) =
    elim (decide-color r.mover.color (opponent color)) [
      | inl e ↦ inl (record { reach = r; enemy = e })
      | inr differ ↦ inr (λ h.
          let same : h.reach.mover ≡ r.mover = mover-is cells a b r.mover r.stands h.reach in
          differ (rw same at h.enemy))
    ]

-- whether an enemy piece reaches the square
pub decide-attacked : (cells : Cells) (color : Color) (s : Square) → Decision (Attacked cells color s)
decide-attacked cells color s =
    decide-square (λ a. Attack cells color a s) (λ a. attack-from cells color a s (decide-reach cells a s))

-- whether a side is in check
pub decide-in_check : (cells : Cells) (color : Color) → Decision (InCheck cells color)
decide-in_check cells color =
    decide-as ((s : Square) × ((at cells s ≡ piece color King) × Attacked cells color s)) (InCheck cells color)
    (λ h. (h.0, h.1.0, h.1.1))
    (λ h. (h.0, (h.1, h.2)))
    (decide-square (λ s. (at cells s ≡ piece color King) × Attacked cells color s)
    (λ s. decide-both _ _ (decide-cell (at cells s) (piece color King)) (decide-attacked cells color s)))
