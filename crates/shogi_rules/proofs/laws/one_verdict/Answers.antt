use Rattle.shogi_rules.proofs.Stretches.{one-verdict}
use Rattle.shogi_rules.proofs.laws.one_verdict.Goals as goal

pub returns : goal.returns
returns c = record {
  once = one-verdict;
}
