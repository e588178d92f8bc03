use Rattle.shogi_board.proofs.position.attacked.Goals as goal

pub returns : goal.returns
returns c = record { answer = rw (← c.position.view_is) c.attacked.ensures }
