use Rattle.std.proofs.Common.{◌-◌}
use Rattle.shogi_board.specs.Reach.{IsClear}
use Rattle.shogi_board.proofs.Sight.{AtPlace}
use Rattle.shogi_board.proofs.board.Board.is_clear.Given as goal

abbrev pub invariant-loop-n : goal.invariant-loop-n
invariant-loop-n l = record {
  seat : AtPlace l.fn.from l.fn.direction (l._n - 1) l.place;
  clear : IsClear l.self l.fn.from l.fn.direction l._n;
}
