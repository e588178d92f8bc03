use Rattle.shogi_rules.proofs.Once.{one-answer}
use Rattle.shogi_rules.proofs.laws.one_answer.Goals as goal

pub returns : goal.returns
returns c = record {
  once = one-answer;
}
