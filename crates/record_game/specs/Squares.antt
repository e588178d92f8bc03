-- The squares by their places.
use Rattle.std.proofs.Common.{ℕ, ◌+◌, ◌/◌, ◌%◌, ◌≤◌, arith}
use Rattle.shogi_board.specs.declared.square.Square.{Square}

pub on_board : (n : ℕ)
    → (1 ≤ n / 9 % 9 + 1) × (n / 9 % 9 + 1 ≤ 9) × (1 ≤ n % 9 + 1) × (n % 9 + 1 ≤ 9)
on_board n = (omega arith, omega arith, omega arith, omega arith)

-- the square of this place below 81, in the order 11, 12, .. 19, 21, .. 99
abbrev pub square_at : ℕ → Square
square_at n = record { file = n / 9 % 9 + 1; rank = n % 9 + 1; on_board = on_board n }
