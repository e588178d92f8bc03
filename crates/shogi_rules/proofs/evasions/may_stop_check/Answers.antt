use Rattle.std.proofs.Common.{rules, inl, inr}
use Rattle.shogi_rules.proofs.evasions.may_stop_check.Goals as goal

pub returns-else-eq : goal.returns-else-eq
returns-else-eq c = λ stop.
    elim stop [
      | inl same ↦ search rules
      | inr between ↦ c.is_between.ensures between
    ]
