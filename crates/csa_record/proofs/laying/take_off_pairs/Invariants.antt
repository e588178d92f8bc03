use Rattle.csa_text.specs.Saying.{pairs_of}
use Rattle.record_game.specs.Placings.{taken_off}
use Rattle.record_game.proofs.LayingPlaced.{Left}
use Rattle.csa_record.proofs.laying.take_off_pairs.Given as goal

abbrev pub invariant-loop-i : goal.invariant-loop-i
invariant-loop-i l = Left taken_off (pairs_of l.pairs) l.fn.setup l.setup l.i
