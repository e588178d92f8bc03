use Rattle.std.proofs.Common.{rules}
use Rattle.shogi_session.proofs.answers.failed.Goals as goal

pub returns-clause-server : goal.returns-clause-server
returns-clause-server c = search rules
