use Rattle.std.proofs.Common.{rules}
use Rattle.shogi_words.proofs.serve.service_of.Goals as goal

pub returns-clause-free : goal.returns-clause-free
returns-clause-free c = search rules
