use Rattle.shogi_rules.proofs.Standing.{some-answer}
use Rattle.shogi_rules.proofs.laws.some_answer.Goals as goal

pub returns : goal.returns
returns c = record { answer = some-answer }
