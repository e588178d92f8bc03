-- Which squares a piece reaches, and which are attacked.
use Rattle.std.specs.Prelude.{◌≡◌, ℕ, ◌<◌, ◌≤◌, ◌⊎◌, Some, None, Any}
use Rattle.shogi_board.specs.declared.color.Color.{Color}
use Rattle.shogi_board.specs.declared.kind.Kind.TheVariants.{King}
use Rattle.shogi_board.specs.declared.kind.Piece.{Piece}
use Rattle.shogi_board.specs.declared.square.Square.{Square}
use Rattle.shogi_board.specs.Cells.{Cells, at, piece}
use Rattle.shogi_board.specs.Moves.{steps, rays, turned_for}
use Rattle.shogi_board.specs.Pieces.{opponent}
use Rattle.shogi_board.specs.Squares.{Direction, IsAway}

-- one step of the piece leads from a to b
abbrev pub Steps : Piece → Square → Square → Type 0
Steps p a b = Any (λ d. IsAway a (turned_for p.color d) 1 b) (steps p.kind)

-- the squares strictly between a and the one n times the direction away are empty
abbrev pub IsClear : Cells → Square → Direction → ℕ → Type 0
IsClear cells a d n = (k : ℕ) (s : Square) → 1 ≤ k → k < n → IsAway a d k s → at cells s ≡ None

-- b lies in that direction from a, with nothing between
pub record InSight (cells : Cells) (a : Square) (d : Direction) (b : Square) : Type 0 where
  pub distance : ℕ
  pub some : 1 ≤ distance
  pub away : IsAway a d distance b
  pub clear : IsClear cells a d distance

-- one ray of the piece leads from a to b, with nothing between
abbrev pub Slides : Cells → Piece → Square → Square → Type 0
Slides cells p a b = Any (λ d. InSight cells a (turned_for p.color d) b) (rays p.kind)

-- the piece on a reaches b, whatever is on b
pub record Reach (cells : Cells) (a b : Square) : Type 0 where
  pub mover : Piece
  pub stands : at cells a ≡ Some mover
  pub moves : Steps mover a b ⊎ Slides cells mover a b

-- the piece on a is an enemy of that colour and reaches b
pub record Attack (cells : Cells) (color : Color) (a b : Square) : Type 0 where
  pub reach : Reach cells a b
  pub enemy : reach.mover.color ≡ opponent color

-- some enemy piece of that colour reaches the square
abbrev pub Attacked : Cells → Color → Square → Type 0
Attacked cells color s = (a : Square) × Attack cells color a s

-- the piece on a is an enemy of that colour and reaches its king
abbrev pub Checks : Cells → Color → Square → Type 0
Checks cells color a = (s : Square) × (at cells s ≡ piece color King) × Attack cells color a s

-- there is a king of that colour, and it is attacked
abbrev pub InCheck : Cells → Color → Type 0
InCheck cells color = (s : Square) × (at cells s ≡ piece color King) × Attacked cells color s
