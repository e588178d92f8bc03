-- Whether a text's squares and hands are a position's, and where its pieces are more than a game
-- has.
use Rattle.std.specs.Prelude.{◌≡◌, ℕ, ◌+◌, ◌<◌, ◌≤◌, ◌==◌, ◌&&◌, List, [], ◌∷◌, ◌++◌, Option, Some, None, slice_index_or, true, if◌then◌else◌}
use Rattle.std.specs.List.{flat_map}
use Rattle.shogi_board.specs.declared.color.Color.{Color}
use Rattle.shogi_board.specs.declared.kind.Kind.{Kind}
use Rattle.shogi_board.specs.declared.kind.Piece.{Piece}
use Rattle.shogi_board.specs.declared.setup.SetupFault.{SetupFault}
use Rattle.shogi_board.specs.declared.setup.SetupFault.TheVariants.{SquareTaken, TooMany, SecondKing, NotForHand, NotThere, OpponentInCheck, AfterRest}
use Rattle.shogi_board.specs.Material.{bag_of}
use Rattle.shogi_board.specs.Pieces.{is_hand_kind, is_king, place_of, same_color}
use Rattle.shogi_board.specs.Placed.{Placed}
use Rattle.shogi_board.specs.Totals.{count_in, limit}
use Rattle.usi_text.specs.Hands.{Pile, pile_pieces, pile_total}
use Rattle.usi_text.specs.Setting.{board_place}

-- each cell of the board's text is on its square
abbrev pub HasCells : Placed → List (Option Piece) → Type 0
HasCells p cells = (n : ℕ) → n < 81
    → slice_index_or p.material.board (board_place n) None ≡ slice_index_or cells n None

-- each hand has the pieces of that side's piles, and no others
abbrev pub HasPiles : Placed → List Pile → Type 0
HasPiles p piles = (color : Color) (kind : Kind) → is_hand_kind kind ≡ true
    → count_in (bag_of p.material color) kind ≡ pile_total color kind piles

abbrev pub cell_pieces : List (Option Piece) → List Piece
cell_pieces [] = []
cell_pieces (None ∷ cells) = cell_pieces cells
cell_pieces (Some p ∷ cells) = p ∷ cell_pieces cells

-- the pieces of a text in its order: first the board's, then the hands'
abbrev pub text_pieces : List (Option Piece) → List Pile → List Piece
text_pieces cells piles = cell_pieces cells ++ flat_map pile_pieces piles

-- how many are of that kind, promoted or not
abbrev pub kind_total : Kind → List Piece → ℕ
kind_total wanted [] = 0
kind_total wanted (p ∷ ps) =
    (if place_of p.kind == place_of wanted then 1 else 0) + kind_total wanted ps

-- how many kings that side has
abbrev pub king_total : Color → List Piece → ℕ
king_total color [] = 0
king_total color (p ∷ ps) =
    (if same_color p.color color && is_king p.kind then 1 else 0) + king_total color ps

-- no side has a second king
abbrev pub NoSecondKing : List Piece → Type 0
NoSecondKing ps = (color : Color) → king_total color ps ≤ 1

-- at most one king a side, and no kind more often than a game has it
pub record IsWithinGame (ps : List Piece) : Type 0 where
  pub kings : NoSecondKing ps
  pub totals : (kind : Kind) → kind_total kind ps ≤ limit kind

-- how they are more than a game has; a second king comes first
abbrev pub Exceeds : List Piece → SetupFault → Type 0
Exceeds ps SecondKing = (color : Color) × (1 < king_total color ps)
Exceeds ps TooMany = NoSecondKing ps × (kind : Kind) × (limit kind < kind_total kind ps)
Exceeds ps SquareTaken = ⊥
Exceeds ps NotForHand = ⊥
Exceeds ps NotThere = ⊥
Exceeds ps OpponentInCheck = ⊥
Exceeds ps AfterRest = ⊥

-- the pieces up to this one are more than a game has, and those before it are not
pub record FirstExcess (ps : List Piece) (fault : SetupFault) : Type 0 where
  pub front : List Piece
  pub last : Piece
  pub rest : List Piece
  pub whole : ps ≡ front ++ last ∷ rest
  pub within : IsWithinGame front
  pub exceeds : Exceeds (front ++ last ∷ []) fault
