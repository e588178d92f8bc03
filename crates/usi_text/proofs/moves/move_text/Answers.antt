use Rattle.std.proofs.Common.{rules}
use Rattle.usi_text.proofs.moves.move_text.Goals as goal

pub returns-then-is_some_and : goal.returns-then-is_some_and
returns-then-is_some_and c = search rules
