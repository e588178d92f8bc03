use Rattle.std.proofs.Common.{rules}
use Rattle.usi_text.proofs.line.usi_fault.Goals as goal

pub returns-in-Broken : goal.returns-in-Broken
returns-in-Broken c = search rules
