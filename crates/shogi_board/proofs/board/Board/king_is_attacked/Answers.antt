use Rattle.shogi_board.proofs.Check.{king_check}
use Rattle.shogi_board.proofs.board.Board.king_is_attacked.Goals as goal

pub returns-in-Some : goal.returns-in-Some
returns-in-Some c =
    king_check c.args.self.now c.args.color c.in-Some.king c.attacked_from.result c.king.ensures.whole c.king.ensures.one (rw c.in-Some.is at c.king.ensures.king) c.attacked_from.ensures
