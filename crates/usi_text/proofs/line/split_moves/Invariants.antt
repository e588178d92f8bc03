use Rattle.std.proofs.Common.{length}
use Rattle.usi_text.specs.Words.{words}
use Rattle.usi_text.proofs.Splits.{Reading}
use Rattle.usi_text.proofs.line.split_moves.Given as goal

abbrev pub invariant-loop-word : goal.invariant-loop-word
invariant-loop-word l = Reading l.fn.text l.rest

abbrev pub decreases-loop-word : goal.decreases-loop-word
decreases-loop-word l = length (words l.rest)
