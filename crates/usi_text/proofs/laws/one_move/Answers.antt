use Rattle.usi_text.proofs.OneMove.{one_move}
use Rattle.usi_text.proofs.laws.one_move.Goals as goal

pub returns : goal.returns
returns c = record { one = one_move }
