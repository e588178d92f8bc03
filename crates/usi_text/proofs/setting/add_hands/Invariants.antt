use Rattle.std.proofs.Common.{length}
use Rattle.usi_text.proofs.Settings.{Holding}
use Rattle.usi_text.proofs.setting.add_hands.Given as goal

abbrev pub invariant-loop-piece : goal.invariant-loop-piece
invariant-loop-piece l = Holding l.fn.text l.rest l.fn.setup l.setup

abbrev pub decreases-loop-piece : goal.decreases-loop-piece
decreases-loop-piece l = length l.rest
