use Rattle.std.proofs.Common.{rules}
use Rattle.shogi_words.proofs.words.command.Goals as goal

pub returns-clause-word : goal.returns-clause-word
returns-clause-word c = search rules
