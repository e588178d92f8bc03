-- For private functions and fields of `Board`: where the kings are, and which files have pawns.
-- A reader of the public contracts may skip this file.
use Rattle.std.specs.Prelude.{◌≡◌, ◌≢◌, ◌≤◌, Bool, ℕ, ◌+◌, ◌*◌, ◌-◌, ◌/◌, ◌%◌, Option, Some, None, length, map, take, drop}
use Rattle.std.specs.List.{list_any, position, range_with_len}
use Rattle.std.specs.Option.{option_map}
use Rattle.std.proofs.Common.{arith}
use Rattle.shogi_board.specs.Cells.{Cells, at, piece}
use Rattle.shogi_board.specs.Same.{same_cell}
use Rattle.shogi_board.specs.Squares.{place}
use Rattle.shogi_board.specs.Totals.{is_king_of, kings_of}
use Rattle.shogi_board.specs.declared.color.Color.{Color}
use Rattle.shogi_board.specs.declared.kind.Kind.TheVariants.{King, Pawn}
use Rattle.shogi_board.specs.declared.kind.Piece.{Piece}
use Rattle.shogi_board.specs.declared.landmarks.Landmarks.{Landmarks}
use Rattle.shogi_board.specs.declared.square.Square.{Square}

-- that side's king is on the square, or on none
abbrev pub IsKingOf : Cells → Color → Option Square → Type 0
IsKingOf cells color None = (s : Square) → at cells s ≡ piece color King → ⊥
IsKingOf cells color (Some s) = at cells s ≡ piece color King

-- the square at a place
pub on_board : (n : ℕ) → (1 ≤ n / 9 % 9 + 1) × (n / 9 % 9 + 1 ≤ 9) × (1 ≤ n % 9 + 1)
    × (n % 9 + 1 ≤ 9)
on_board n = (omega arith, omega arith, omega arith, omega arith)

abbrev pub square_at : ℕ → Square
square_at n = record { file = n / 9 % 9 + 1; rank = n % 9 + 1; on_board = on_board n }

-- an unpromoted pawn of that colour is on one of the nine squares of a file, counted from 0
abbrev pub has_pawn : Color → Cells → ℕ → Bool
has_pawn color cells file =
    list_any (λ cell. same_cell cell (piece color Pawn)) (take 9 (drop (9 * file) cells))

-- the first king of that colour, and the files with pawns
abbrev pub landmarks_of : Color → Cells → Landmarks
landmarks_of color cells = record {
  king = option_map square_at (position (is_king_of color) cells);
  pawn_files = map (has_pawn color cells) (range_with_len 0 9);
}

-- a side has one king at most, and these are its landmarks
pub record HasLandmarks (cells : Cells) (color : Color) (marks : Landmarks) : Type 0 where
  pub squares : length cells ≡ 81
  pub one_king : kings_of cells color ≤ 1
  pub same : landmarks_of color cells ≡ marks

-- the square, and no other, holds another cell than before, when it held that one
pub record HasReplaced (before after : Cells) (s : Square) (cell : Option Piece) : Type 0 where
  pub was : at before s ≡ cell
  pub others : (t : Square) → place t ≢ place s → at before t ≡ at after t

-- the landmarks of a side before and after the square held another cell
abbrev pub KeepsLandmarks : Color → Square → Option Piece → Cells → Landmarks → Landmarks → Type 0
KeepsLandmarks color s was after old new =
    (before : Cells) → HasReplaced before after s was → kings_of after color ≤ 1
    → HasLandmarks before color old → HasLandmarks after color new
