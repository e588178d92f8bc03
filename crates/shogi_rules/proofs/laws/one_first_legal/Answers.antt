use Rattle.shogi_rules.proofs.Once.{first-once}
use Rattle.shogi_rules.proofs.laws.one_first_legal.Goals as goal

pub returns : goal.returns
returns c = record {
  once = first-once;
}
