use Rattle.std.proofs.Common.{rules}
use Rattle.csa_cutting.proofs.piece.hold_mark.Goals as goal

pub hold-requires : goal.hold-requires
hold-requires c = search rules

pub returns-in_default : goal.returns-in_default
returns-in_default c = search rules
