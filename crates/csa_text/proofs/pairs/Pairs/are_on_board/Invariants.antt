use Rattle.std.proofs.Common.{ℕ, ◌<◌, get_or}
use Rattle.csa_text.specs.declared.pair.Pair.TheVariants.{Rest}
use Rattle.csa_text.specs.PairTexts.{IsOnBoard}
use Rattle.csa_text.specs.Saying.{pairs_of}
use Rattle.csa_text.proofs.pairs.Pairs.are_on_board.Given as goal

abbrev pub invariant-loop-i : goal.invariant-loop-i
invariant-loop-i l = (k : ℕ) → k < l.i → IsOnBoard (get_or (pairs_of l.self) k Rest)
