use Rattle.shogi_rules.proofs.Checks.{reaches-between}
use Rattle.shogi_rules.proofs.evasions.is_between.Goals as goal

pub returns : goal.returns
returns c = λ between.
    c.reaches.ensures.answer.1 (rw c.as_ref.ensures.value (reaches-between c.args.situation.now.material.board c.args.situation.now.side c.args.checker c.args.king c.args.to c.requires.check between))
