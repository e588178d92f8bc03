use Rattle.std.proofs.Common.{◌∙◌}
use Rattle.shogi_board.proofs.Marks.{king-counted}
use Rattle.shogi_board.proofs.board.Board.has_king.Goals as goal

pub returns : goal.returns
returns c = c.is_some.ensures ∙ king-counted c.args.color c.args.self.now c.king.result c.king.ensures.whole c.king.ensures.one c.king.ensures.king
