use Rattle.std.proofs.Common.{◌≡◌, [], arith}
use Rattle.csa_cutting.specs.Places.{IsHeld}
use Rattle.csa_cutting.specs.declared.units.Place.TheVariants.{Gap, Unit as InUnit}
use Rattle.csa_cutting.proofs.Finding.{passes_gap, found_in_unit}
use Rattle.csa_cutting.proofs.piece.found_in.Goals as goal

pub returns-in-Gap : goal.returns-in-Gap
returns-in-Gap c = rw c.in-Gap.is (c.first_in.ensures Gap c.args.held.now 0 (omega arith) (passes_gap c.args.held.now c.args.piece.now 0))

pub returns-in-Comment : goal.returns-in-Comment
returns-in-Comment c =
    let none : c.args.held.now ≡ [] = rw c.in-Comment.is at c.requires in
    rw (c.in-Comment.is, none) c.found_in_comment.ensures

pub returns-in-Unit : goal.returns-in-Unit
returns-in-Unit c =
    let held : IsHeld InUnit c.args.held.now = rw c.in-Unit.is at c.requires in
    rw c.in-Unit.is (found_in_unit c.args.held.now c.args.piece.now c.unit_length.result held.0 held.1 c.unit_length.ensures.value)
