use Rattle.std.proofs.Common.{◌≡◌, ◌%◌, ◌^◌, ◌<◌, length, take}
use Rattle.shogi_board.specs.Keys.{cell_key, sum_from}
use Rattle.shogi_board.proofs.board.Board.key.Given as goal

abbrev pub invariant-loop-n : goal.invariant-loop-n
invariant-loop-n l = record {
  sum : sum_from cell_key 0 (take l.n l.self) % 2 ^ 64 ≡ l.key;
  whole : 0 < l.n → length l.self ≡ 81;
}
