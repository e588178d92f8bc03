use Rattle.shogi_board.proofs.position.Position.pawn_on_file.Goals as goal

pub returns : goal.returns
returns c = record { answer = rw (← c.self.view_is) c.has_pawn_on_file.ensures }
