use Rattle.std.proofs.Common.{[]}
use Rattle.session_commands.specs.Talking.{Talking}
use Rattle.session_commands.proofs.talk.answer_all.Given as goal

abbrev pub invariant-loop-pieces : goal.invariant-loop-pieces
invariant-loop-pieces g l = Talking g.X.Wire.came g.X.Wire.ends g.X.Wire.went g.M.Machine.answers l.fn.wire l.fn.machine l._pieces l.cutter [] l.wire l.machine
