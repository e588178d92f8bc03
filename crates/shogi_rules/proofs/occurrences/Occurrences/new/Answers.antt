use Rattle.std.proofs.Common.{◌≡◌, refl, replicate}
use Rattle.shogi_rules.specs.Searching.{first_links}
use Rattle.shogi_rules.proofs.Searched.{none-found}
use Rattle.shogi_rules.proofs.occurrences.Occurrences.new.Goals as goal

pub invariant_of-result : goal.invariant_of-result
invariant_of-result c =
    let zeros : c.extend_from_slice.new.self.items ≡ replicate first_links 0 = rw (c.in_ok-extend_from_slice.ensures.items, c.in_ok-links.ensures.items) refl in
    none-found _ _ c.in_ok-with_capacity.ensures.items zeros
