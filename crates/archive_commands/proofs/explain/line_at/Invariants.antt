use Rattle.std.proofs.Common.{◌≡◌, ◌≤◌, ◌+◌, ◌++◌, ℕ, List, false, length}
use Rattle.std.specs.Io.KnownBytes.{Consumes}
use Rattle.archive_commands.specs.LineNumbers.{line_ends}
use Rattle.archive_commands.proofs.explain.line_at.Given as goal

-- what was read so far, and the line ends in it
abbrev pub invariant-loop-left : goal.invariant-loop-left
invariant-loop-left g l = record {
  front : List ℕ;
  read : Consumes (g.B.Read.remaining l.fn.input) (g.B.Read.remaining l.input) front;
  left : length front + l.left ≡ l.offset;
  few : l.ends.number ≤ length front;
  counted : (more : List ℕ) → line_ends false (front ++ more) ≡ l.ends.number + line_ends l.ends.follow_cr more;
}

abbrev pub decreases-loop-left : goal.decreases-loop-left
decreases-loop-left g l = l.left
