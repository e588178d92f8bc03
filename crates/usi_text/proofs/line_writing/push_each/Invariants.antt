use Rattle.std.proofs.Common.{◌≡◌, ◌++◌, ℕ, List, take}
use Rattle.shogi_rules.specs.Positions.{position_after}
use Rattle.usi_text.specs.LineText.{MovesText}
use Rattle.usi_text.proofs.line_writing.push_each.Given as goal

abbrev pub invariant-loop-mv : goal.invariant-loop-mv
invariant-loop-mv l = record {
  now : l.now ≡ position_after l.fn.start (take l.mv-index l.moves);
  stated : (rest : List ℕ) × MovesText l.fn.start (take l.mv-index l.moves) rest × (l.text.items ≡ l.fn.text.items ++ rest);
}
