use Rattle.std.proofs.Common.{◌≡◌, ◌+◌, length, arith, sym, ap, ◌∙◌}
use Rattle.csa_cutting.proofs.Unspoken.{one_comment, one_separator}
use Rattle.csa_cutting.proofs.units.front_unspoken.Goals as goal

pub returns-then-is_separator-clause-unspoken : goal.returns-then-is_separator-clause-unspoken
returns-then-is_separator-clause-unspoken c = λ held.
    one_separator held c.in_ok-first.first.now c.args.text.now c.in_ok-first.rest.now c.in_ok-first.ensures.cases.0 (sym c.is_separator.ensures ∙ c.if-is_separator.true)

pub returns-in_default-clause-unspoken : goal.returns-in_default-clause-unspoken
returns-in_default-clause-unspoken c = λ held.
    let whole = c.in_ok-first.ensures.cases.0 in
    let size : length c.in_ok-first.rest.now + 1 ≡ length c.args.text.now = omega (arith, ap length whole) in
    rw size at (one_comment held c.in_ok-first.first.now c.args.text.now c.in_ok-first.rest.now _ whole c.if-first-ne-COMMENT.false c.in_default.ensures.goes_on)

pub returns-clause-unspoken : goal.returns-clause-unspoken
returns-clause-unspoken c = λ held.
    one_comment held c.in_ok-first.first.now c.args.text.now c.in_ok-first.rest.now _ c.in_ok-first.ensures.cases.0 c.if-first-ne-COMMENT.false c.in-Some.ensures.ends
