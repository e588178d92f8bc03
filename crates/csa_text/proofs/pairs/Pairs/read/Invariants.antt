use Rattle.csa_text.proofs.PairsRead.{Front}
use Rattle.csa_text.proofs.pairs.Pairs.read.Given as goal

abbrev pub invariant-loop-i : goal.invariant-loop-i
invariant-loop-i l = Front l.bytes l.i
