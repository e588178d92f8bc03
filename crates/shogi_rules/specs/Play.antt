-- What `play` returns.
use Rattle.std.specs.Prelude.{◌<◌, ◌≤◌, Option, Some, None, length}
use Rattle.shogi_board.specs.declared.color.Color.{Color}
use Rattle.shogi_rules.specs.declared.line.PlayFault.{PlayFault}
use Rattle.shogi_rules.specs.declared.line.PlayFault.TheVariants.{TooManyMoves, Broken, OutOfMemory}
use Rattle.shogi_board.specs.declared.moves.Move.{Move}
use Rattle.shogi_board.specs.declared.rule.Rule.{Rule}
use Rattle.shogi_rules.specs.Positions.{Played, max_moves}
use Rattle.shogi_rules.specs.Rules.{Kept}
use Rattle.shogi_board.specs.Rules.{all_rules, IsFirstBroken}

-- the first rule that the move breaks, over all positions of the line
abbrev pub Breaks : Played → Color → Move → Option Rule → Type 0
Breaks line color m rule = IsFirstBroken (Kept line color m) all_rules rule

-- memory aside: too many moves, else the first broken rule, else none
abbrev pub Answers : Played → Color → Move → Option PlayFault → Type 0
Answers line color m None = (length line.moves < max_moves) × Breaks line color m None
Answers line color m (Some TooManyMoves) = max_moves ≤ length line.moves
Answers line color m (Some (Broken rule)) = (length line.moves < max_moves)
    × Breaks line color m (Some rule)
Answers line color m (Some OutOfMemory) = ⊥
