use Rattle.std.proofs.Common.{◌≡◌, length}
use Rattle.usi_text.specs.Words.{words}
use Rattle.usi_text.proofs.Played.{Playing}
use Rattle.usi_text.proofs.line.play_words.Given as goal

abbrev pub invariant-loop-word : goal.invariant-loop-word
invariant-loop-word l = record {
  start : l.line.start ≡ l.fn.line.start;
  playing : Playing l.fn.line.start (words l.text) (words l.rest) l.line.moves;
}

abbrev pub decreases-loop-word : goal.decreases-loop-word
decreases-loop-word l = length (words l.rest)
