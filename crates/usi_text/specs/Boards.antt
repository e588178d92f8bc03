-- What a board's text spells: nine ranks, the one farthest from black first, each from file 9 to
-- file 1.
use Rattle.std.specs.Prelude.{◌≡◌, ℕ, ◌+◌, ◌≤◌, ◌==◌, List, [], ◌∷◌, ◌++◌, Option, Some, None, length, replicate}
use Rattle.std.specs.List.{AllByRecursion, flat_map, slice_split}
use Prim.Native.Char.{code}
use Rattle.shogi_board.specs.declared.kind.Piece.{Piece}
use Rattle.usi_text.specs.Letters.{piece_text}

-- a part of a rank: so many empty squares, or a piece
pub data Part : Type 0 where
  empty_squares : ℕ → Part
  one_piece : Piece → Part

-- empty squares are counted by a digit
abbrev pub part_text : Part → List ℕ
part_text (empty_squares n) = (code "0" + n) ∷ []
part_text (one_piece p) = piece_text p

abbrev pub part_cells : Part → List (Option Piece)
part_cells (empty_squares n) = replicate n None
part_cells (one_piece p) = Some p ∷ []

-- the digits are 1 to 9
abbrev pub IsPart : Part → Type 0
IsPart (empty_squares n) = (1 ≤ n) × (n ≤ 9)
IsPart (one_piece p) = Unit {0}

-- the text is these parts one after another, and these are their cells
abbrev pub SpellsCells : List ℕ → List (Option Piece) → Type 0
SpellsCells text cells =
    (parts : List Part) × AllByRecursion IsPart parts × (text ≡ flat_map part_text parts)
    × (cells ≡ flat_map part_cells parts)

-- each text spells nine cells, and these are all of them in order
abbrev pub SpellsRanks : List (List ℕ) → List (Option Piece) → Type 0
SpellsRanks [] cells = cells ≡ []
SpellsRanks (text ∷ texts) cells =
    (rank : List (Option Piece)) × (others : List (Option Piece)) × (cells ≡ rank ++ others)
    × SpellsCells text rank × (length rank ≡ 9) × SpellsRanks texts others

-- the parts of a text between slashes
abbrev pub ranks_of : List ℕ → List (List ℕ)
ranks_of text = slice_split (λ b. b == code "/") text

abbrev pub SpellsBoard : List ℕ → List (Option Piece) → Type 0
SpellsBoard text cells = (length (ranks_of text) ≡ 9) × SpellsRanks (ranks_of text) cells
