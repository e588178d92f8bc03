use Rattle.shogi_board.proofs.situation.SituationFromPosition.from.Goals as goal

pub invariant_of-result : goal.invariant_of-result
invariant_of-result c = rw (← c.position.view_is) (c.position.invariant.sound, c.checker-checker.ensures)
