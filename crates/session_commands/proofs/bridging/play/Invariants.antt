use Rattle.session_commands.proofs.Playing.{Answered}
use Rattle.session_commands.proofs.bridging.play.Given as goal

abbrev pub invariant-loop-rounds : goal.invariant-loop-rounds
invariant-loop-rounds g l = Answered g.E.Ends.came g.E.Ends.went g.E.Ends.gone l.fn.ends l.fn.bridge l.fn.progress.ended l.out.to_engine l.out.to_server l.out.status l._rounds l.ends l.bridge l.progress.ended
