use Rattle.shogi_rules.proofs.Stretches.{nth-once}
use Rattle.shogi_rules.proofs.laws.nth_place_once.Goals as goal

pub returns : goal.returns
returns c = record {
  once = nth-once;
}
