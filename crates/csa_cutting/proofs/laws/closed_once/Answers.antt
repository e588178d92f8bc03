use Rattle.std.proofs.Common.{List, length, filter, refl}
use Rattle.csa_cutting.specs.Cut.{TextUnit}
use Rattle.csa_cutting.specs.ClosedStatements.{Closed, is_closed}
use Rattle.csa_cutting.proofs.Joining.{closed_once}
use Rattle.csa_cutting.proofs.Once.{cut_found}
use Rattle.csa_cutting.proofs.laws.closed_once.Goals as goal

pub returns : goal.returns
returns c = record {
  closed = λ source.
      let all = cut_found source in
      let closed : List TextUnit = filter (is_closed (length source)) all.0 in
      let here : Closed source closed = (all.0, all.1, refl) in
      (closed, here, λ others other. closed_once source others closed other here);
}
