use Rattle.std.proofs.Common.{rules}
use Rattle.shogi_session.proofs.in_play.with_reason.Goals as goal

pub returns-clause-reason : goal.returns-clause-reason
returns-clause-reason c = search rules
