use Rattle.std.proofs.Common.{◌-◌, ◌<◌, length}
use Rattle.shogi_rules.specs.Searching.{Comes}
use Rattle.shogi_rules.proofs.occurrences.search.Given as goal

abbrev pub invariant-loop-link : goal.invariant-loop-link
invariant-loop-link l = (l.link < length l.links) × Comes l.entries l.links l.position l.link

abbrev pub decreases-loop-link : goal.decreases-loop-link
decreases-loop-link l = length l.links - l.link
