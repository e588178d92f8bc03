-- For private functions: in which direction a square is from another, and what goes in a direction.
-- A reader of the public contracts may skip this file.
use Rattle.std.specs.Prelude.{ℕ, ◌≡◌, ◌≤◌, ◌==◌, ◌&&◌, ◌⊎◌, Bool, not, Contains}
use Rattle.shogi_board.specs.declared.kind.Kind.{Kind}
use Rattle.shogi_board.specs.declared.square.Square.{Square}
use Rattle.shogi_board.specs.Moves.{IsRay, rays, steps}
use Rattle.shogi_board.specs.Squares.{Direction, IsAway}

abbrev pub is_forward : Direction → Bool
is_forward d = d.files == 2 && d.ranks == 1

-- neither along a file nor along a rank
abbrev pub is_diagonal : Direction → Bool
is_diagonal d = not (d.files == 2) && not (d.ranks == 2)

-- a piece of that kind goes n squares in that direction, as its side sees it, where nothing stands
-- between
abbrev pub Goes : Kind → Direction → ℕ → Type 0
Goes kind d n = ((n ≡ 1) × Contains (steps kind) d) ⊎ Contains (rays kind) d

-- at most two files and two ranks
abbrev pub IsNear : Direction → Type 0
IsNear d = (d.files ≤ 4) × (d.ranks ≤ 4)

-- if b lies on a rank, file or diagonal of a, then in that direction
abbrev pub IsDirection : Square → Square → Direction → Type 0
IsDirection a b d = (e : Direction) (n : ℕ) → IsRay e → 1 ≤ n → IsAway a e n b → d ≡ e

-- b lies n squares away from a in that direction
abbrev pub Lies : Square → Square → Direction → ℕ → Type 0
Lies a b d n = IsRay d × (1 ≤ n) × IsAway a d n b

-- b lies on the rank, file or diagonal of a, or is a
abbrev pub IsInLine : Square → Square → Type 0
IsInLine a b = (d : Direction) × (n : ℕ) × IsRay d × IsAway a d n b

-- b lies in no direction from a
abbrev pub IsNowhere : Square → Square → Type 0
IsNowhere a b = (e : Direction) (n : ℕ) → IsRay e → 1 ≤ n → IsAway a e n b → ⊥

-- if b lies on a rank, file or diagonal of a, then that far away
abbrev pub IsDistance : Square → Square → ℕ → Type 0
IsDistance a b distance = (e : Direction) (n : ℕ) → IsRay e → IsAway a e n b → distance ≡ n
