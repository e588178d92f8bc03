use Rattle.csa_cutting.proofs.LinesOnce.{lines_once}
use Rattle.csa_cutting.proofs.LinesFound.{lines_found}
use Rattle.csa_cutting.proofs.laws.lines_once.Goals as goal

pub returns : goal.returns
returns c = record {
  lines = λ bytes.
      let here = lines_found bytes in
      (here.0, here.1, here.2, λ others rest lines. lines_once bytes others here.0 rest here.1 lines here.2);
}
