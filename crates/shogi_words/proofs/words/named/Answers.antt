use Rattle.std.proofs.Common.{rules}
use Rattle.shogi_words.proofs.words.named.Goals as goal

pub returns-clause-name : goal.returns-clause-name
returns-clause-name c = search rules

pub returns-clause-no_words : goal.returns-clause-no_words
returns-clause-no_words c = search rules
