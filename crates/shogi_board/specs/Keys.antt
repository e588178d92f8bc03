-- The Zobrist key of a position: the sum, modulo 2 ^ 64, of a number for each piece on its square,
-- a number for each piece in a hand, and a number for the side to move.
use Rattle.std.specs.Prelude.{ℕ, ◌+◌, ◌*◌, ◌%◌, ◌/◌, ◌^◌, List, [], ◌∷◌, Option, Some, None, bit_xor}
use Rattle.shogi_board.specs.declared.color.Color.{Color}
use Rattle.shogi_board.specs.declared.color.Color.TheVariants.{Black, White}
use Rattle.shogi_board.specs.declared.kind.Kind.{Kind}
use Rattle.shogi_board.specs.declared.kind.Kind.TheVariants.{Pawn, Lance, Knight, Silver, Gold, Bishop, Rook, King, ProPawn, ProLance, ProKnight, ProSilver, Horse, Dragon}
use Rattle.shogi_board.specs.declared.kind.Piece.{Piece}
use Rattle.shogi_board.specs.Cells.{Cells}
use Rattle.shogi_board.specs.Placed.{Placed}

-- a number spread over those below 2 ^ 64
abbrev pub spread : ℕ → ℕ
spread n = (n * 11400714819323198485) % 2 ^ 64

-- its upper half laid over the lower one
abbrev pub folded : ℕ → ℕ
folded n = bit_xor n (n / 2 ^ 32)

-- a number that stands for another one, far from those of its neighbours
abbrev pub mixed : ℕ → ℕ
mixed n = folded (spread (folded (spread n)))

abbrev pub color_number : Color → ℕ
color_number Black = 0
color_number White = 1

abbrev pub kind_number : Kind → ℕ
kind_number Pawn = 0
kind_number Lance = 1
kind_number Knight = 2
kind_number Silver = 3
kind_number Gold = 4
kind_number Bishop = 5
kind_number Rook = 6
kind_number King = 7
kind_number ProPawn = 8
kind_number ProLance = 9
kind_number ProKnight = 10
kind_number ProSilver = 11
kind_number Horse = 12
kind_number Dragon = 13

-- what a piece on the square of that place counts
abbrev pub piece_key : ℕ → Piece → ℕ
piece_key n p = mixed ((n * 2 + color_number p.color) * 14 + kind_number p.kind + 17)

abbrev pub cell_key : ℕ → Option Piece → ℕ
cell_key n None = 0
cell_key n (Some p) = piece_key n p

-- what a piece in the hand of that side counts, whose kind has that place
abbrev pub held_key : Color → ℕ → ℕ
held_key color n = mixed (color_number color * 8 + n + 1)

abbrev pub side_key : Color → ℕ
side_key Black = 0
side_key White = 2 ^ 63

-- the sum of what the elements of a list count, the first of them at place n
abbrev pub sum_from : {X : Type 0} → (ℕ → X → ℕ) → ℕ → List X → ℕ
sum_from count n [] = 0
sum_from count n (x ∷ xs) = count n x + sum_from count (n + 1) xs

abbrev pub cells_key : Cells → ℕ
cells_key cells = sum_from cell_key 0 cells

abbrev pub counts_key : Color → List ℕ → ℕ
counts_key color counts = sum_from (λ n count. held_key color n * count) 0 counts

abbrev pub key_of : Placed → ℕ
key_of p =
    (cells_key p.material.board
    + (counts_key Black p.material.black + counts_key White p.material.white) + side_key p.side)
    % 2 ^ 64
