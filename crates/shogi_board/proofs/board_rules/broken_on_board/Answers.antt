use Rattle.shogi_board.proofs.board_rules.broken_on_board.Goals as goal

pub returns-in-Walk : goal.returns-in-Walk
returns-in-Walk c = rw c.in-Walk.is c.broken_by_walk.ensures

pub returns-in-Put : goal.returns-in-Put
returns-in-Put c = rw c.in-Put.is c.broken_by_drop.ensures
