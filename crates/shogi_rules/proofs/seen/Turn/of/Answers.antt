use Rattle.shogi_board.proofs.Check.{checked-by}
use Rattle.shogi_rules.proofs.seen.Turn.of.Goals as goal

pub returns-clause-check : goal.returns-clause-check
returns-clause-check c =
    checked-by c.args.situation.now.material.board c.args.situation.now.side c.checker.result c.is_some.result c.is_some.ensures c.checker.ensures.answer
