use Rattle.shogi_board.proofs.Broken.{unkept}
use Rattle.shogi_rules.proofs.judging.after.Goals as goal

pub returns-in-Err : goal.returns-in-Err
returns-in-Err c = absurd (unkept c.from-next.result c.args.mv.now c.in-Err.field-0 c.in-Err.ensures.answer (rw c.from-next.ensures.0 c.requires.kept))
