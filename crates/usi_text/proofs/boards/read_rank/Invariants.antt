use Rattle.std.proofs.Common.{◌≤◌, length}
use Rattle.arrayvec.specs.ArrayVec.{array_vec_len}
use Rattle.usi_text.proofs.Ranks.{Runs}
use Rattle.usi_text.proofs.boards.read_rank.Given as goal

abbrev pub invariant-loop-rest : goal.invariant-loop-rest
invariant-loop-rest l = record {
  runs : Runs l.text l.rest l.fn.cells.items l.cells.items;
  within : array_vec_len l.cells ≤ l.end;
}

abbrev pub decreases-loop-rest : goal.decreases-loop-rest
decreases-loop-rest l = length l.rest
