use Rattle.shogi_board.proofs.Check.{checked-by}
use Rattle.shogi_rules.proofs.judging.in_check.Goals as goal

pub returns : goal.returns
returns c = record {
  check = rw (← c.from.ensures.0) (checked-by c.from.result.material.board c.from.result.side c.checker.result c.is_some.result c.is_some.ensures c.checker.ensures.answer);
}
