use Rattle.shogi_rules.specs.Rules.{Kept}
use Rattle.shogi_board.specs.Rules.{all_rules}
use Rattle.shogi_rules.proofs.Decided.{decide-kept, some-broken}
use Rattle.shogi_rules.proofs.laws.some_first_broken_rule.Goals as goal

pub returns : goal.returns
returns c = record { answer = λ line color m. some-broken (Kept line color m) all_rules (decide-kept line color m) }
