use Rattle.std.proofs.Common.{rules}
use Rattle.csa_text.proofs.fields.with_digit.Goals as goal

pub returns : goal.returns
returns c = search rules
