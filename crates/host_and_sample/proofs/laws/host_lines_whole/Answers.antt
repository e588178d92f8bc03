use Rattle.host_and_sample.proofs.HostWhole.{lines_cut, lines_unspaced}
use Rattle.host_and_sample.proofs.laws.host_lines_whole.Goals as goal

pub returns-clause-cut : goal.returns-clause-cut
returns-clause-cut c = lines_cut

pub returns-clause-unspaced : goal.returns-clause-unspaced
returns-clause-unspaced c = lines_unspaced
