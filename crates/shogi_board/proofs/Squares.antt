-- Squares are told apart by their file and rank, and by their place.
use Rattle.std.proofs.Common.{◌≡◌, ℕ, ◌+◌, ◌<◌, ◌≤◌, arith, ap, inl, inr, subst}
use Rattle.std.proofs.lemmas.Bool.{cases_lt}
use denote.Struct.Props.{props}
use Rattle.shogi_board.specs.declared.square.Square.{Square}
use Rattle.shogi_board.specs.Squares.{Direction, place, IsAway, file_of, rank_of}

abbrev OnBoard : ℕ → ℕ → Type 0
OnBoard file rank = (1 ≤ file) × (file ≤ 9) × (1 ≤ rank) × (rank ≤ 9)

on_board-same : (file rank : ℕ) (h k : OnBoard file rank) → h ≡ k
on_board-same file rank h k = let p : IsProp (OnBoard file rank) = hlevel props in p h k

abbrev square : (file rank : ℕ) → OnBoard file rank → Square
square file rank h = record { file = file; rank = rank; on_board = h }

from-parts : (f r : ℕ) (h : OnBoard f r) (g : ℕ) → f ≡ g → (q : ℕ) → r ≡ q → (k : OnBoard g q) → square f r h ≡ square g q k
from-parts f r h g e =
    let P : ℕ → Type 0 = λ g. (q : ℕ) → r ≡ q → (k : OnBoard g q) → square f r h ≡ square g q k in
    subst P e (λ q d.
    let Q : ℕ → Type 0 = λ q. (k : OnBoard f q) → square f r h ≡ square f q k in
    subst Q d (λ k. ap (λ (x : OnBoard f r). square f r x) (on_board-same f r h k)))

-- squares with one file and one rank are one
pub square-same : (a b : Square) → file_of a ≡ file_of b → rank_of a ≡ rank_of b → a ≡ b
square-same a b e d = from-parts a.file a.rank a.on_board b.file e b.rank d b.on_board

-- squares at one place are one
pub place-same : (a b : Square) → place a ≡ place b → a ≡ b
place-same a b e =
    let h = a.on_board in
    let k = b.on_board in
    square-same a b (omega arith) (omega arith)

pub place-bound : (a : Square) → place a < 81
place-bound a = let h = a.on_board in omega arith

-- from one square one other lies n times a direction away
pub away-same : (a b c : Square) (d : Direction) (n : ℕ) → IsAway a d n b → IsAway a d n c → b ≡ c
away-same a b c d n h k = square-same b c (omega arith) (omega arith)

-- what holds of each square before a place holds of each up to it, if it does of the one there
pub below-next : (P : Square → Type 0) (n : ℕ) (s : Square) → place s ≡ n → ((t : Square) → place t < n → P t) → P s → (t : Square) → place t < n + 1 → P t
below-next P n s there below here t low =
    elim (cases_lt (place t) n) [
      | inl lt ↦ below t lt
      | inr ge ↦ subst P (place-same s t (omega (arith, there, low, ge))) here
    ]

pub all-squares : (P : Square → Type 0) (n : ℕ) → 81 ≤ n → ((t : Square) → place t < n → P t) → (t : Square) → P t
all-squares P n end below t = let low = place-bound t in below t (omega (arith, low, end))
