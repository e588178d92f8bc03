use Rattle.std.proofs.Common.{rules}
use Rattle.shogi_session.proofs.in_play.is_waiting.Goals as goal

pub returns-in-Playing : goal.returns-in-Playing
returns-in-Playing c = search rules
