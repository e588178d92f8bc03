use Rattle.std.proofs.Common.{rules}
use Rattle.usi_text.proofs.writing.push_run.Goals as goal

pub returns-in_ok-push : goal.returns-in_ok-push
returns-in_ok-push c = search rules
