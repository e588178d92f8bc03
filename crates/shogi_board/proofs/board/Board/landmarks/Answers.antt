use Rattle.shogi_board.proofs.board.Board.landmarks.Goals as goal

pub returns-in-Black : goal.returns-in-Black
returns-in-Black c = rw (← c.self.view_is, c.in-Black.is) c.self.invariant.0

pub returns-in-White : goal.returns-in-White
returns-in-White c = rw (← c.self.view_is, c.in-White.is) c.self.invariant.1
