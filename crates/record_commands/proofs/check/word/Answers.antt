use Rattle.std.proofs.Common.{rules}
use Rattle.record_commands.proofs.check.word.Goals as goal

pub returns-in-Mate : goal.returns-in-Mate
returns-in-Mate c = search rules
