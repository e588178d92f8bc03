use Rattle.std.proofs.Common.{rules}
use Rattle.host_and_sample.proofs.sample.Sample.new.Goals as goal

pub returns : goal.returns
returns c = search rules
