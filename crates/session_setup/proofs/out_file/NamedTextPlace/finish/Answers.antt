use Rattle.session_setup.proofs.Replacing.{finishes_fault, finishes_not, finishes_ok}
use Rattle.session_setup.proofs.out_file.NamedTextPlace.finish.Goals as goal

pub returns : goal.returns
returns g c = record {
  took = finishes_ok _ _ _ _ _ _ _ c.finish.ensures;
  refused = finishes_not _ _ _ _ _ _ _ c.finish.ensures;
  faults = finishes_fault _ _ _ _ _ _ _ c.finish.ensures;
}
