use Rattle.std.proofs.Common.{refl}
use Rattle.std.proofs.lemmas.Result.{err_from_is_err_and}
use Rattle.session_setup.specs.Disk.{beside, in_place, no_target, none_beside}
use Rattle.session_setup.proofs.out_file.begin.Goals as goal

pub returns-in_err-target-clause-unbegun : goal.returns-in_err-target-clause-unbegun
returns-in_err-target-clause-unbegun g c =
    let p = err_from_is_err_and c.from_residual.result c.from_residual.ensures.1 in
    rw (p.1, p.2) (no_target _ c.in_err-target.ensures.none refl)

pub returns-in_err-create_beside-in-Some-clause-unbegun : goal.returns-in_err-create_beside-in-Some-clause-unbegun
returns-in_err-create_beside-in-Some-clause-unbegun g c =
    let found = rw c.in-Some.is at c.in_ok-target.ensures.target in
    let p = err_from_is_err_and c.from_residual-in_err-create_beside-in-Some.result c.from_residual-in_err-create_beside-in-Some.ensures.1 in
    rw (p.1, p.2) (none_beside _ _ _ found c.in_err-create_beside-in-Some.ensures.not_created)

pub returns-in_ok-create_beside-in-Some-clause-begun : goal.returns-in_ok-create_beside-in-Some-clause-begun
returns-in_ok-create_beside-in-Some-clause-begun g c =
    let found = rw c.in-Some.is at c.in_ok-target.ensures.target in
    let made = c.in_ok-create_beside-in-Some.ensures in
    beside c.in_ok-create_beside-in-Some.field-0 c.in-Some.target.mode (rw made.target.0 found) made.target.1 made.created

pub returns-in-None-clause-begun : goal.returns-in-None-clause-begun
returns-in-None-clause-begun g c = in_place (rw c.in-None.is at c.in_ok-target.ensures.target) refl
