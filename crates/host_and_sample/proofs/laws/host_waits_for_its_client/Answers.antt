use Rattle.host_and_sample.proofs.HostTurn.{host_waits}
use Rattle.host_and_sample.proofs.laws.host_waits_for_its_client.Goals as goal

pub returns : goal.returns
returns c = record { turn = host_waits }
