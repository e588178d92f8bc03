use Rattle.std.proofs.Common.{[], arith}
use Rattle.csa_cutting.specs.declared.units.Place.TheVariants.{Gap}
use Rattle.csa_cutting.proofs.Finding.{passes_gap}
use Rattle.csa_cutting.proofs.Spoken.{first_statement, none_spoken}
use Rattle.csa_cutting.proofs.cutter.next_spoken.Goals as goal

pub returns-in-Part : goal.returns-in-Part
returns-in-Part c =
    let source = c.args.source.now in
    first_statement source c.args.from c.in-Part.unit.start c.in-Part.unit.end c.in-Part.unit.origin (c.in-Part.ensures Gap [] c.args.from (omega arith) (passes_gap [] source c.args.from))

pub returns-in-LeadsTo : goal.returns-in-LeadsTo
returns-in-LeadsTo c =
    let source = c.args.source.now in
    none_spoken source c.args.from c.in-LeadsTo.field-0 (c.in-LeadsTo.ensures Gap [] c.args.from (omega arith) (passes_gap [] source c.args.from))
