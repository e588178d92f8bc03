use Rattle.std.proofs.Common.{rules}
use Rattle.csa_cutting.proofs.line.LineCutter.finish.Goals as goal

pub returns : goal.returns
returns c = search rules
