use Rattle.std.proofs.Common.{rules}
use Rattle.csa_cutting.proofs.scan.front_length.Goals as goal

pub returns-then-not-passes-clause-front : goal.returns-then-not-passes-clause-front
returns-then-not-passes-clause-front c = search rules

pub returns-then-not-passes-clause-next : goal.returns-then-not-passes-clause-next
returns-then-not-passes-clause-next c = search rules
