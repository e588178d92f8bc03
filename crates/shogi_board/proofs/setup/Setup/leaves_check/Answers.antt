use Rattle.shogi_board.proofs.Check.{checked-by}
use Rattle.shogi_board.proofs.setup.Setup.leaves_check.Goals as goal

pub returns-clause-value : goal.returns-clause-value
returns-clause-value c =
    rw (← c.self.view_is, ← c.not.ensures) (checked-by c.self.inside.board c.not.result c.checker.result c.is_some.result c.is_some.ensures c.checker.ensures)
