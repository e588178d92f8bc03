use Rattle.shogi_rules.proofs.Checks.{no-other-evasion, still-attacks}
use Rattle.shogi_rules.proofs.laws.only_evasions_end_check.Goals as goal

pub returns : goal.returns
returns c = record {
  attacked = still-attacks;
  refused = no-other-evasion;
}
