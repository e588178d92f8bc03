use Rattle.std.proofs.Common.{◌≡◌, ◌≤◌, length, take}
use Rattle.session_lines.specs.Texts.{without_last_spaces}
use Rattle.session_lines.proofs.move_line.without_last_spaces.Given as goal

abbrev pub invariant-loop-end : goal.invariant-loop-end
invariant-loop-end l = record {
  within : l.end ≤ length l.line;
  same : without_last_spaces (take l.end l.line) ≡ without_last_spaces l.line;
}

abbrev pub decreases-loop-end : goal.decreases-loop-end
decreases-loop-end l = l.end
