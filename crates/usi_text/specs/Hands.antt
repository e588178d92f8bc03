-- What a text of both hands spells: piles of pieces.
use Rattle.std.specs.Prelude.{◌≡◌, ℕ, ◌+◌, ◌≤◌, ◌==◌, ◌&&◌, true, if◌then◌else◌, List, [], ◌∷◌, ◌++◌, Option, Some, None, replicate, unwrap_or, codes, decimal}
use Rattle.std.specs.List.{AllByRecursion, flat_map}
use Rattle.shogi_board.specs.declared.color.Color.{Color}
use Rattle.shogi_board.specs.declared.kind.Kind.{Kind}
use Rattle.shogi_board.specs.declared.kind.Piece.{Piece}
use Rattle.shogi_board.specs.Pieces.{is_hand_kind, place_of, same_color}
use Rattle.usi_text.specs.Letters.{side_letter}

-- pieces of one side and kind, with their count if it is written
pub record Pile : Type 0 where
  pub count : Option ℕ
  pub piece : Piece

-- the count before the letter, if there is one
abbrev pub count_text : Option ℕ → List ℕ
count_text None = []
count_text (Some n) = decimal n

abbrev pub pile_text : Pile → List ℕ
pile_text pile = count_text pile.count ++ side_letter pile.piece ∷ []

-- a count, if there is one, is from 1 to 99
abbrev pub IsCount : Option ℕ → Type 0
IsCount None = Unit {0}
IsCount (Some n) = (1 ≤ n) × (n ≤ 99)

-- of a kind that a hand may hold
abbrev pub IsPile : Pile → Type 0
IsPile pile = IsCount pile.count × (is_hand_kind pile.piece.kind ≡ true)

-- the text is the piles one after another
abbrev pub SpellsPiles : List ℕ → List Pile → Type 0
SpellsPiles text piles = AllByRecursion IsPile piles × (text ≡ flat_map pile_text piles)

-- a dash alone if both hands are empty
abbrev pub SpellsHands : List ℕ → List Pile → Type 0
SpellsHands text [] = text ≡ codes "-"
SpellsHands text (pile ∷ piles) = SpellsPiles text (pile ∷ piles)

-- the pieces of a pile; without a count there is one
abbrev pub pile_pieces : Pile → List Piece
pile_pieces pile = replicate (unwrap_or pile.count 1) pile.piece

-- how many pieces of that side and kind the piles have together
abbrev pub pile_total : Color → Kind → List Pile → ℕ
pile_total color wanted [] = 0
pile_total color wanted (pile ∷ piles) =
    (if same_color pile.piece.color color && (place_of pile.piece.kind == place_of wanted)
    then unwrap_or pile.count 1 else 0)
    + pile_total color wanted piles
