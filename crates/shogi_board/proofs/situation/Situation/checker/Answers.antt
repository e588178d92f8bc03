use Rattle.shogi_board.proofs.situation.Situation.checker.Goals as goal

pub returns : goal.returns
returns c = record { answer = rw (← c.self.view_is) c.self.invariant.1 }
