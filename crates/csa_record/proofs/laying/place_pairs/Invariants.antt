use Rattle.std.proofs.Common.{[], ◌∷◌}
use Rattle.csa_text.specs.Saying.{pairs_of}
use Rattle.record_game.specs.Placings.{pair_placing}
use Rattle.record_game.proofs.LayingPlaced.{Left}
use Rattle.csa_record.proofs.laying.place_pairs.Given as goal

abbrev pub invariant-loop-i : goal.invariant-loop-i
invariant-loop-i l = Left (λ p. pair_placing l.color p ∷ []) (pairs_of l.pairs) l.fn.setup l.setup l.i
