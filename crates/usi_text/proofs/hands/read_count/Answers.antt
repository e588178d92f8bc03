use Rattle.std.proofs.Common.{arith, rules}
use Rattle.usi_text.proofs.Spelt.{only_none, only_zero, only_one, only_two, read_one, read_two}
use Rattle.usi_text.proofs.hands.read_count.Goals as goal

pub returns-in_default-clause-only : goal.returns-in_default-clause-only
returns-in_default-clause-only c = only_none c.args.text.now c.in_default.ensures

pub returns-then-tens-eq0-clause-read : goal.returns-then-tens-eq0-clause-read
returns-then-tens-eq0-clause-read c = search rules

pub returns-then-tens-eq0-clause-only : goal.returns-then-tens-eq0-clause-only
returns-then-tens-eq0-clause-only c =
    only_zero c.args.text.now c.in-Some.rest.now c.in-Some.tens c.if-tens-eq0.true c.in-Some.ensures.1

pub returns-in_default-read_digit-clause-read : goal.returns-in_default-read_digit-clause-read
returns-in_default-read_digit-clause-read c =
    let h = c.in-Some.ensures in
    read_one c.args.text.now c.in-Some.rest.now c.in-Some.tens (omega arith) h.0 h.1

pub returns-in_default-read_digit-clause-only : goal.returns-in_default-read_digit-clause-only
returns-in_default-read_digit-clause-only c =
    let h = c.in-Some.ensures in
    only_one c.args.text.now c.in-Some.rest.now c.in-Some.tens (omega arith) h.0 h.1 c.in_default-read_digit.ensures

pub returns-clause-read : goal.returns-clause-read
returns-clause-read c =
    let h = c.in-Some.ensures in
    let k = c.in-Some-read_digit.ensures in
    read_two c.args.text.now c.in-Some.rest.now c.in-Some-read_digit.following.now c.in-Some.tens c.in-Some-read_digit.ones (omega arith) h.0 k.0 h.1 k.1

pub returns-clause-only : goal.returns-clause-only
returns-clause-only c =
    let h = c.in-Some.ensures in
    let k = c.in-Some-read_digit.ensures in
    only_two c.args.text.now c.in-Some.rest.now c.in-Some-read_digit.following.now c.in-Some.tens c.in-Some-read_digit.ones (omega arith) h.0 k.0 h.1 k.1
