use Rattle.std.proofs.Common.{◌-◌, ◌≤◌, length, drop}
use Rattle.session_commands.specs.Talking.{TalkGoesOn}
use Rattle.session_commands.proofs.talk.answer_piece.Given as goal

abbrev pub invariant-loop-used : goal.invariant-loop-used
invariant-loop-used g l = record {
  within : l.used ≤ length l.piece;
  talks : TalkGoesOn g.X.Wire.came g.X.Wire.ends g.X.Wire.went g.M.Machine.answers l.fn.cutter l.piece l.fn.wire l.fn.machine l.cutter (drop l.used l.piece) l.wire l.machine;
}

abbrev pub decreases-loop-used : goal.decreases-loop-used
decreases-loop-used g l = length l.piece - l.used
