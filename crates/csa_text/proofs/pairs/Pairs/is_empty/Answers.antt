use Rattle.std.proofs.Common.{rules}
use Rattle.std.proofs.lemmas.List.{nil_from_length}
use Rattle.csa_text.proofs.pairs.Pairs.is_empty.Goals as goal

pub returns : goal.returns
returns c = search (rules, nil_from_length)
