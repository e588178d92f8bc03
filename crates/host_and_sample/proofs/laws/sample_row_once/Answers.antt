use Rattle.host_and_sample.proofs.SampleOnce.{sample_once}
use Rattle.host_and_sample.proofs.laws.sample_row_once.Goals as goal

pub returns : goal.returns
returns c = record { once = sample_once }
