use Rattle.std.proofs.Common.{length}
use Rattle.usi_text.proofs.Piles.{Reads}
use Rattle.usi_text.proofs.hands.is_hands.Given as goal

abbrev pub invariant-loop-following : goal.invariant-loop-following
invariant-loop-following l = Reads l.fn.text l.rest

abbrev pub decreases-loop-following : goal.decreases-loop-following
decreases-loop-following l = length l.rest
