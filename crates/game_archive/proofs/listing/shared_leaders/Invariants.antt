use Rattle.game_archive.proofs.Listed.{Seen}
use Rattle.game_archive.proofs.listing.shared_leaders.Given as goal

abbrev pub invariant-loop-at : goal.invariant-loop-at
invariant-loop-at l = Seen l.placings l.at l.shared
