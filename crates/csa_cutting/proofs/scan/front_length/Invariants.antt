use Rattle.std.proofs.Common.{ℕ, ◌<◌, true, get_or}
use Rattle.csa_cutting.proofs.scan.front_length.Given as goal

abbrev pub invariant-loop-i : goal.invariant-loop-i
invariant-loop-i g l = (k : ℕ) → k < l.i → goal.F-post g l.passes (get_or l.text k 0) true
