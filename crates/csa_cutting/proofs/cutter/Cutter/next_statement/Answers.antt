use Rattle.std.proofs.Common.{rules, drop, arith, refl}
use Rattle.csa_cutting.specs.Cutting.{unit_between}
use Rattle.csa_cutting.proofs.Runs.{found}
use Rattle.csa_cutting.proofs.Spoken.{stated_first, unit_has_some}
use Rattle.csa_cutting.proofs.cutter.Cutter.next_statement.Goals as goal

pub returns-then-unit-gt-LONGEST_STATEMENT-clause-fault : goal.returns-then-unit-gt-LONGEST_STATEMENT-clause-fault
returns-then-unit-gt-LONGEST_STATEMENT-clause-fault c =
    let source = c.self.inside.source.now in
    let first = c.in-Some.ensures in
    let others = found c.in-Some.end (drop c.in-Some.end source) in
    rw (← c.self.view_is) (record {
      unit = unit_between source c.in-Some.start c.in-Some.end;
      others = others.0;
      first = stated_first source c.self.inside.at c.in-Some.start c.in-Some.end others.0 first others.1;
      number_is = refl;
      place = refl;
      long = omega (arith, c.if-unit-gt-LONGEST_STATEMENT.true);
    })

pub invariant_of-self : goal.invariant_of-self
invariant_of-self c =
    let first = c.in-Some.ensures in
    (first.unit.within, omega (arith, first.order, unit_has_some _ _ _ first.unit, c.self.invariant))

pub returns-then-unit-gt-LONGEST_STATEMENT-clause-still : goal.returns-then-unit-gt-LONGEST_STATEMENT-clause-still
returns-then-unit-gt-LONGEST_STATEMENT-clause-still c = search rules

pub returns-clause-lent : goal.returns-clause-lent
returns-clause-lent c = search rules

pub returns-clause-limit : goal.returns-clause-limit
returns-clause-limit c = search rules
