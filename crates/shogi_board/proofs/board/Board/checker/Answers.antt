use Rattle.shogi_board.proofs.Check.{checker-is}
use Rattle.shogi_board.proofs.board.Board.checker.Goals as goal

pub returns-in-Some : goal.returns-in-Some
returns-in-Some c =
    checker-is c.args.self.now c.args.color c.in-Some.king c.attacker.result c.king.ensures.whole c.king.ensures.one (rw c.in-Some.is at c.king.ensures.king) c.attacker.ensures
