use Rattle.std.proofs.Common.{arith}
use Rattle.csa_text.proofs.FrontTimes.{front_ends, front_spells, front_word, none_at_front}
use Rattle.csa_text.proofs.front.front_time.Goals as goal

pub returns-clause-spells : goal.returns-clause-spells
returns-clause-spells c =
    let whole = c.in_ok-first.ensures.cases.0 in
    let digits = c.front_digits-seconds in
    front_spells c.in_ok-first.first.now digits.result.1 digits.result.0 c.args.piece.now c.in_ok-first.text.now whole c.if-first-ne84.false digits.ensures.within (omega (arith, c.if-digits-eq0.false)) digits.ensures.value

pub returns-clause-word : goal.returns-clause-word
returns-clause-word c =
    let whole = c.in_ok-first.ensures.cases.0 in
    let digits = c.front_digits-seconds in
    front_word c.in_ok-first.first.now digits.result.1 c.args.piece.now c.in_ok-first.text.now whole c.if-first-ne84.false digits.ensures.value.digits_only

pub returns-then-digits-eq0-clause-none : goal.returns-then-digits-eq0-clause-none
returns-then-digits-eq0-clause-none c = λ rest is.
    let digits = c.front_digits-seconds in
    none_at_front c.in_ok-first.first.now digits.result.1 c.args.piece.now c.in_ok-first.text.now rest c.in_ok-first.ensures.cases.0 digits.ensures.all c.if-digits-eq0.true is

pub returns-clause-all : goal.returns-clause-all
returns-clause-all c =
    let digits = c.front_digits-seconds in
    front_ends c.in_ok-first.first.now digits.result.1 c.args.piece.now c.in_ok-first.text.now c.in_ok-first.ensures.cases.0 digits.ensures.all
