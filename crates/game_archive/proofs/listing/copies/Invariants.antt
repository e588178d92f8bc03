use Rattle.std.specs.Prelude.{IsTrue}
use Rattle.std.specs.BTreeSet.{contains}
use Rattle.std.specs.Ordering.{nat_cmp}
use Rattle.game_archive.proofs.Listed.{Lists, Rise}
use Rattle.game_archive.proofs.listing.copies.Given as goal

abbrev pub invariant-loop-at : goal.invariant-loop-at
invariant-loop-at l = record {
  lists : Lists (λ leader. IsTrue (contains nat_cmp l.shared leader)) l.placings l.at l.pairs.items;
  rise : Rise l.pairs.items;
}
