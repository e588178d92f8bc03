use Rattle.std.proofs.Common.{rules}
use Rattle.host_and_sample.proofs.host.Host.new.Goals as goal

pub returns-clause-config : goal.returns-clause-config
returns-clause-config c = search rules
