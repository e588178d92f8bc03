use Rattle.std.proofs.Common.{◌≡◌, ◌≤◌, ◌+◌, ◌++◌, ℕ, List, drop}
use Rattle.archive_commands.specs.LineNumbers.{line_ends}
use Rattle.archive_commands.proofs.explain.LineEnds.count.Given as goal

-- what ends in the bytes so far, and in the others
abbrev pub invariant-loop-byte : goal.invariant-loop-byte
invariant-loop-byte l = record {
  counted : (more : List ℕ) → l.fn.self.number + line_ends l.fn.self.follow_cr (l.bytes ++ more) ≡ l.self.number + line_ends l.self.follow_cr (drop l.byte-index l.bytes ++ more);
  bound : l.self.number ≤ l.fn.self.number + l.byte-index;
}
