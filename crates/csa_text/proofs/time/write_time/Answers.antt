use Rattle.std.proofs.Common.{◌≡◌, ◌∷◌, ◌+◌, ◌/◌, ◌%◌, [], arith, refl}
use Rattle.std.specs.Fmt.{decimal}
use Rattle.std.proofs.lemmas.Fmt.{decimal_digit}
use Rattle.itoa.proofs.Decimal.{decimal_two}
use Rattle.csa_text.specs.TimeTexts.{time_text}
use Rattle.csa_text.proofs.time.write_time.Goals as goal

pub returns-in_ok-extend_from_slice : goal.returns-in_ok-extend_from_slice
returns-in_ok-extend_from_slice c =
    let t = c.args.thousandths in
    let whole : t % 1000 ≡ 0 = grind arith in
    let text : decimal (t / 1000) ≡ (48 + t / 1000) ∷ [] = decimal_digit (t / 1000) (grind arith) in
    let time : time_text t ≡ (48 + t / 1000) ∷ [] = rw (whole, text) refl in
    let digit = c.digit.ensures in
    let items = c.in_ok-extend_from_slice.ensures.items in
    record { added = cc }

pub returns-in_ok-extend_from_slice-2 : goal.returns-in_ok-extend_from_slice-2
returns-in_ok-extend_from_slice-2 c =
    let t = c.args.thousandths in
    let whole : t % 1000 ≡ 0 = grind arith in
    let text : decimal (t / 1000) ≡ (48 + t / 1000 / 10) ∷ (48 + t / 1000 % 10) ∷ [] = decimal_two (t / 1000) (grind arith) (grind arith) in
    let time : time_text t ≡ (48 + t / 1000 / 10) ∷ (48 + t / 1000 % 10) ∷ [] = rw (whole, text) refl in
    let first = c.digit-else-seconds-lt10.ensures in
    let second = c.digit-else-seconds-lt10-2.ensures in
    let items = c.in_ok-extend_from_slice-2.ensures.items in
    record { added = cc }
