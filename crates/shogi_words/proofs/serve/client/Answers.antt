use Rattle.std.proofs.Common.{rules}
use Rattle.shogi_words.proofs.serve.client.Goals as goal

pub returns-then-get_flag-clause-white : goal.returns-then-get_flag-clause-white
returns-then-get_flag-clause-white c = search rules
