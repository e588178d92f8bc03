use Rattle.shogi_board.proofs.Marks.{marks-kept}
use Rattle.shogi_board.proofs.landmarks.Landmarks.keep.Goals as goal

pub returns : goal.returns
returns c = λ before r few h.
    rw c.file.ensures.value (marks-kept c.args.color before c.args.cells.now c.args.square c.args.was c.args.self.now _ _ c.told-cells few r h (c.king_after-king.ensures before r h) (c.pawn_after-pawn.ensures before r h))
