use Rattle.shogi_board.proofs.Marks.{pawns-of}
use Rattle.shogi_board.proofs.board.Board.has_pawn_on_file.Goals as goal

pub returns : goal.returns
returns c = rw c.file.ensures.value (pawns-of c.args.color c.args.self.now c.landmarks.result c.landmarks.ensures c.args.square)
