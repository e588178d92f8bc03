use Rattle.std.proofs.Common.{rules}
use Rattle.shogi_words.proofs.words.file.Goals as goal

pub returns : goal.returns
returns c = search rules
