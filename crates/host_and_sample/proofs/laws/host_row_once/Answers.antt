use Rattle.host_and_sample.proofs.HostOnce.{host_row_once}
use Rattle.host_and_sample.proofs.laws.host_row_once.Goals as goal

pub returns : goal.returns
returns c = record { once = host_row_once }
