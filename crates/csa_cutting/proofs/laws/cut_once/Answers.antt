use Rattle.csa_cutting.proofs.Once.{units_once, statements_once, cut_found}
use Rattle.csa_cutting.proofs.Runs.{found}
use Rattle.csa_cutting.proofs.laws.cut_once.Goals as goal

pub returns-clause-units : goal.returns-clause-units
returns-clause-units c = λ offset text.
    let here = (found offset text).1 in
    (here.units, here.cut, λ others cut. units_once offset text others here.units cut here.cut)

pub returns-clause-anywhere : goal.returns-clause-anywhere
returns-clause-anywhere c = λ offset text.
    let here = found offset text in
    (here.0, here.1, λ others cut. statements_once offset text others here.0 cut here.1)

pub returns-clause-source : goal.returns-clause-source
returns-clause-source c = λ source.
    let here = cut_found source in
    (here.0, here.1, λ others cut. statements_once _ _ others here.0 cut here.1)
