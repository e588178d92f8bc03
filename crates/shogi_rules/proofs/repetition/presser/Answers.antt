use Rattle.std.proofs.Common.{refl}
use Rattle.shogi_rules.proofs.Places.{nobody-alone}
use Rattle.shogi_rules.proofs.repetition.presser.Goals as goal

pub returns-in-true-false : goal.returns-in-true-false
returns-in-true-false c = λ ps are.
    ((c.in-true-false.ensures ps are).0 refl, λ white. let f = (c.in-true-false.ensures' ps are).1 white in cc)

pub returns-in-false-true : goal.returns-in-false-true
returns-in-false-true c = λ ps are.
    ((c.in-false-true.ensures' ps are).0 refl, λ black. let f = (c.in-false-true.ensures ps are).1 black in cc)

pub returns-in_default : goal.returns-in_default
returns-in_default c = λ ps are.
    nobody-alone ps c.args.first c.args.fourth _ _ (c.in_default.ensures ps are) (c.in_default.ensures' ps are) refl

pub returns-in_default-2 : goal.returns-in_default-2
returns-in_default-2 c = λ ps are.
    nobody-alone ps c.args.first c.args.fourth _ _ (c.in_default.ensures ps are) (c.in_default.ensures' ps are) refl
