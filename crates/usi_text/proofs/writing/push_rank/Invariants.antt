use Rattle.std.proofs.Common.{◌≡◌, ◌-◌, ◌≤◌, ◌++◌}
use Rattle.usi_text.specs.SfenText.{cells_from, rank_text}
use Rattle.usi_text.proofs.Runs.{text_after}
use Rattle.usi_text.proofs.writing.push_rank.Given as goal

abbrev pub invariant-loop-right : goal.invariant-loop-right
invariant-loop-right l = record {
  text : l.text.items ++ text_after l.empty (cells_from l.position.material.board l.rank (9 - l.right)) ≡ l.fn.text.items ++ rank_text l.position.material.board l.rank;
  few : l.empty ≤ l.right;
}
