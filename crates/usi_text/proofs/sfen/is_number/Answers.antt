use Rattle.std.proofs.Common.{rules}
use Rattle.std.proofs.lemmas.List.{nil_from_length}
use Rattle.usi_text.proofs.sfen.is_number.Goals as goal

pub returns-then-all : goal.returns-then-all
returns-then-all c = search (rules, nil_from_length)
