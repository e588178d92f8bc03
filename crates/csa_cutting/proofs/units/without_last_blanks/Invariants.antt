use Rattle.std.proofs.Common.{◌≡◌, ◌≤◌, length, take}
use Rattle.csa_cutting.specs.Cut.{without_last_blanks}
use Rattle.csa_cutting.proofs.units.without_last_blanks.Given as goal

abbrev pub invariant-loop-end : goal.invariant-loop-end
invariant-loop-end l = record {
  within : l.end ≤ length l.bytes;
  same : without_last_blanks (take l.end l.bytes) ≡ without_last_blanks l.bytes;
}

abbrev pub decreases-loop-end : goal.decreases-loop-end
decreases-loop-end l = l.end
