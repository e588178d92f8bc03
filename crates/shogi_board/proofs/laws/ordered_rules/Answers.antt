use Rattle.std.proofs.Common.{rules}
use Rattle.std.specs.List.Sorted.{IsStrictlySortedBy}
use Rattle.shogi_board.specs.Rules.{all_rules}
use Rattle.shogi_board.specs.contracts.rule.RuleOrd.TheImpl.{cmp-value}
use Rattle.shogi_board.proofs.laws.ordered_rules.Goals as goal

sorted : IsStrictlySortedBy cmp-value.it all_rules
unfolding IsStrictlySortedBy
sorted = search rules

pub returns : goal.returns
returns c = record { named = sorted }
