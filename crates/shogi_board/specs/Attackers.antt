-- For private functions: the pieces that attack a square, as they are seen from it.
-- A reader of the public contracts may skip this file.
use Rattle.std.specs.Prelude.{◌≡◌, Any}
use Rattle.shogi_board.specs.declared.color.Color.{Color}
use Rattle.shogi_board.specs.declared.kind.Kind.TheVariants.{Knight, King}
use Rattle.shogi_board.specs.declared.square.Square.{Square}
use Rattle.shogi_board.specs.Cells.{Cells, at, piece}
use Rattle.shogi_board.specs.Moves.{steps, turned_for}
use Rattle.shogi_board.specs.Pieces.{opponent}
use Rattle.shogi_board.specs.Reach.{Attack, InSight}
use Rattle.shogi_board.specs.Squares.{Direction, IsAway}

-- an attacker is in sight in that direction
abbrev pub AttackInSight : Cells → Color → Square → Direction → Type 0
AttackInSight cells color s d = (a : Square) × InSight cells s d a × Attack cells color a s

-- an enemy knight stands one step away in that direction, as that colour sees it
abbrev pub KnightAcross : Cells → Color → Square → Direction → Type 0
KnightAcross cells color s d =
    (a : Square) × IsAway s (turned_for color d) 1 a × (at cells a ≡ piece (opponent color) Knight)

abbrev pub IsAttackedInLine : Cells → Color → Square → Type 0
IsAttackedInLine cells color s = Any (AttackInSight cells color s) (steps King)

abbrev pub IsAttackedByJump : Cells → Color → Square → Type 0
IsAttackedByJump cells color s = Any (KnightAcross cells color s) (steps Knight)
