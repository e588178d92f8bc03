-- Squares and directions.
use Rattle.std.specs.Prelude.{◌≡◌, ℕ, ◌+◌, ◌*◌, ◌-◌}
use Rattle.shogi_board.specs.declared.square.Square.{Square}

-- from 1 to 9, black's right file first
abbrev pub file_of : Square → ℕ
file_of s = s.file

-- from 1 to 9, the rank farthest from black first
abbrev pub rank_of : Square → ℕ
rank_of s = s.rank

-- the place of a square in the order 11, 12, .. 19, 21, .. 99, from 0
abbrev pub place : Square → ℕ
place s = (s.file - 1) * 9 + (s.rank - 1)

-- how far one step goes: files grow to black's left and ranks towards black, and both count from 2,
-- so that 2 stays on the file or rank
pub record Direction : Type 0 where
  pub files : ℕ
  pub ranks : ℕ

-- b lies n times the direction away from a
abbrev pub IsAway : Square → Direction → ℕ → Square → Type 0
IsAway a d n b = (b.file + n * 2 ≡ a.file + n * d.files) × (b.rank + n * 2 ≡ a.rank + n * d.ranks)
