use Rattle.shogi_rules.proofs.Standing.{some-verdict}
use Rattle.shogi_rules.proofs.laws.some_verdict.Goals as goal

pub returns : goal.returns
returns c = record { verdict = some-verdict }
