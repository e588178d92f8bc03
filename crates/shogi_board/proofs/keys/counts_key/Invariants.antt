use Rattle.std.proofs.Common.{◌≡◌, ◌%◌, ◌^◌, ◌*◌, take}
use Rattle.shogi_board.specs.Keys.{held_key, sum_from}
use Rattle.shogi_board.proofs.keys.counts_key.Given as goal

abbrev pub invariant-loop-n : goal.invariant-loop-n
invariant-loop-n l = sum_from (λ place count. held_key l.color place * count) 0 (take l.n l.counts) % 2 ^ 64 ≡ l.key
