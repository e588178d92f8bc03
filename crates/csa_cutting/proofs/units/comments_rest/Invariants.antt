use Rattle.std.proofs.Common.{◌<◌, ◌-◌, [], length}
use Rattle.csa_cutting.specs.Places.{IsUnspoken}
use Rattle.csa_cutting.specs.declared.units.Place.TheVariants.{Comment}
use Rattle.csa_cutting.proofs.units.comments_rest.Given as goal

abbrev pub invariant-loop-next : goal.invariant-loop-next
invariant-loop-next l = record {
  some : 0 < l.passed.used;
  unspoken : IsUnspoken Comment [] l.text l.passed;
}

abbrev pub decreases-loop-next : goal.decreases-loop-next
decreases-loop-next l = length l.text - l.passed.used
