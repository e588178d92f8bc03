use Rattle.csa_cutting.proofs.Blanks.{either_way}
use Rattle.csa_cutting.proofs.units.handed_out.Goals as goal

pub returns-then-not-ends_blank-clause-value : goal.returns-then-not-ends_blank-clause-value
returns-then-not-ends_blank-clause-value c = either_way _ c.args.unit.now _ (c.ends_blank.ensures c.if-not-ends_blank.true)
