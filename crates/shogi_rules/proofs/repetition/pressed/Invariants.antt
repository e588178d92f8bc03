use Rattle.std.proofs.Common.{List}
use Rattle.shogi_board.specs.Placed.{Placed}
use Rattle.shogi_rules.specs.Counting.{AreTurns}
use Rattle.shogi_rules.specs.Repetition.{Pressed}
use Rattle.shogi_rules.proofs.repetition.pressed.Given as goal

abbrev pub invariant-loop-place : goal.invariant-loop-place
invariant-loop-place l = (ps : List Placed) → AreTurns ps l.turns → Pressed ps l.first l.place l.color
