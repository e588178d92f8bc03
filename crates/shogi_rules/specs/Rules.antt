-- The rules of a move after the moves of a line.
use Rattle.std.specs.Prelude.{◌≡◌}
use Rattle.shogi_board.specs.declared.color.Color.{Color}
use Rattle.shogi_board.specs.declared.moves.Move.{Move}
use Rattle.shogi_board.specs.declared.rule.Rule.{Rule}
use Rattle.shogi_board.specs.declared.rule.Rule.TheVariants.{WrongSide, RepetitionOver}
use Rattle.shogi_board.specs.Rules.{KeepsRule}
use Rattle.shogi_board.specs.Placed.{Placed}
use Rattle.shogi_rules.specs.Positions.{Played, Over, alone, now_of}

-- a side's move keeps a rule after the moves of the line
abbrev pub Kept : Played → Color → Move → Rule → Type 0
Kept line color m WrongSide = color ≡ (now_of line).side
Kept line color m RepetitionOver = Over line → ⊥
Kept line color m rule = KeepsRule (now_of line) m rule

-- a side's move keeps a rule in the position, which occurs for the first time
abbrev pub KeptAt : Placed → Color → Move → Rule → Type 0
KeptAt p = Kept (alone p)
