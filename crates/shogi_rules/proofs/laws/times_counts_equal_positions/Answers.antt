use Rattle.std.proofs.Common.{refl}
use Rattle.shogi_rules.proofs.Counts.{times-more, times-same}
use Rattle.shogi_rules.proofs.laws.times_counts_equal_positions.Goals as goal

pub returns : goal.returns
returns c = record { none = λ _. refl; more = times-more; same = times-same }
