-- Statements that a position block may have.
use Rattle.std.proofs.Common.{◌≡◌, true, false}
use Rattle.csa_text.specs.Saying.{Saying}
use Rattle.bridge_table.specs.Summary.{in_position}

abbrev pub FitsIn : Saying → Type 0
FitsIn s = in_position s ≡ true

pub not_so : false ≡ true → ⊥
not_so h = absurd cc
