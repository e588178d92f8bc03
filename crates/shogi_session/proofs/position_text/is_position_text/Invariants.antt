use Rattle.std.proofs.Common.{◌-◌, length}
use Rattle.shogi_session.proofs.PositionRead.{HasRead}
use Rattle.shogi_session.proofs.position_text.is_position_text.Given as goal

abbrev pub invariant-loop-statement : goal.invariant-loop-statement
invariant-loop-statement l = HasRead l.text l.cutter

abbrev pub decreases-loop-statement : goal.decreases-loop-statement
decreases-loop-statement l = length l.text - l.cutter.at
