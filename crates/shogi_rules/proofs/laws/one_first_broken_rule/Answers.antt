use Rattle.shogi_rules.specs.Rules.{Kept}
use Rattle.shogi_board.specs.Rules.{all_rules}
use Rattle.shogi_rules.proofs.Once.{one-broken}
use Rattle.shogi_rules.proofs.laws.one_first_broken_rule.Goals as goal

pub returns : goal.returns
returns c = record {
  once = λ line color m a b h k. one-broken (Kept line color m) all_rules a b h k;
}
