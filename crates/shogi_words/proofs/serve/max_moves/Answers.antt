use Rattle.std.proofs.Common.{rules}
use Rattle.shogi_words.proofs.serve.max_moves.Goals as goal

pub returns-in-Some-clause-within : goal.returns-in-Some-clause-within
returns-in-Some-clause-within c = search rules
