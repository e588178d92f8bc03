use Rattle.host_and_sample.proofs.Answering.{best_of}
use Rattle.host_and_sample.proofs.sample.best_move.Goals as goal

pub returns : goal.returns
returns c =
    best_of c.first_move.result c.args.game.now c.now.result c.now.ensures.value
    (λ over. let is = c.is_over.ensures.answer.1 over in let not = c.if-is_over.false in cc) c.first_move.ensures
