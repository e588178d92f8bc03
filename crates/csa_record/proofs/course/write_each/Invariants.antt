use Rattle.std.proofs.Common.{◌≡◌, ◌++◌, drop}
use Rattle.csa_record.proofs.Timing.{lines_of}
use Rattle.csa_record.proofs.course.write_each.Given as goal

abbrev pub invariant-loop-i : goal.invariant-loop-i
invariant-loop-i l =
    l.out.items ++ lines_of l.color (drop l.i l.moves) (drop l.i l.times) ≡ l.fn.out.items ++ lines_of l.fn.side l.moves l.times
