use Rattle.std.proofs.Common.{rules}
use Rattle.shogi_words.proofs.commands.request_of.Goals as goal

pub returns-in-usi-clause-named : goal.returns-in-usi-clause-named
returns-in-usi-clause-named c = search rules
