use Rattle.std.proofs.Common.{◌≡◌, ℕ, ◌<◌, false, get_or}
use Rattle.session_commands.specs.Comments.{is_quote}
use Rattle.session_commands.proofs.progress.comment_start.Given as goal

abbrev pub invariant-loop-i : goal.invariant-loop-i
invariant-loop-i l = (k : ℕ) → k < l.i → is_quote (get_or l.line k 0) ≡ false
