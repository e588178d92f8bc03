use Rattle.std.proofs.Common.{◌≤◌, ◌-◌, List, ℕ, length}
use Rattle.csa_cutting.specs.Places.{PassesTo}
use Rattle.csa_cutting.specs.declared.units.Place.{Place}
use Rattle.csa_cutting.proofs.units.first_in.Given as goal

abbrev pub invariant-loop-start : goal.invariant-loop-start
invariant-loop-start l = record {
  order : l.from ≤ l.at;
  within : l.at ≤ length l.piece;
  passed : (place : Place) (held : List ℕ) (front : ℕ) → front ≤ l.from → PassesTo place held l.piece front l.from → PassesTo place held l.piece front l.at;
}

abbrev pub decreases-loop-start : goal.decreases-loop-start
decreases-loop-start l = length l.piece - l.at
