use Rattle.shogi_board.proofs.Marks.{king-of}
use Rattle.shogi_board.proofs.board.Board.king.Goals as goal

pub returns-clause-king : goal.returns-clause-king
returns-clause-king c = king-of c.args.color c.args.self.now c.landmarks.result c.landmarks.ensures
