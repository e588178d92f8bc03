-- Squares beside a square, by file and rank. There is no file or rank 0 or 10, so a place outside
-- is no square's.
use Rattle.std.specs.Prelude.{◌≡◌, ℕ, ◌+◌, ◌-◌, List, [], ◌∷◌, Option, Any, slice_set}
use Rattle.shogi_board.specs.Cells.{Cells}
use Rattle.shogi_board.specs.Squares.{place, file_of, rank_of}
use Rattle.shogi_board.specs.declared.kind.Piece.{Piece}
use Rattle.shogi_board.specs.declared.square.Square.{Square}

-- the square has one of these files and ranks
abbrev pub IsAmong : List (ℕ × ℕ) → Square → Type 0
IsAmong places s = Any (λ p. (file_of s ≡ p.0) × (rank_of s ≡ p.1)) places

-- ahead of a gold of black, behind it, on both sides, and ahead on both sides
abbrev pub gold_squares : Square → List (ℕ × ℕ)
gold_squares s =
    let f = file_of s in
    let r = rank_of s in
    (f, r - 1) ∷ (f, r + 1) ∷ (f + 1, r) ∷ (f - 1, r) ∷ (f + 1, r - 1) ∷ (f - 1, r - 1) ∷ []

-- the squares beside a square along its file and rank
abbrev pub beside : Square → List (ℕ × ℕ)
beside s =
    let f = file_of s in
    let r = rank_of s in
    (f, r - 1) ∷ (f, r + 1) ∷ (f + 1, r) ∷ (f - 1, r) ∷ []

-- the board with that on a square
abbrev pub with_cell : Cells → Square → Option Piece → Cells
with_cell cells s cell = slice_set cells (place s) cell
