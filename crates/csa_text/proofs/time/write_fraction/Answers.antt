use Rattle.std.proofs.Common.{rules}
use Rattle.csa_text.proofs.time.write_fraction.Goals as goal

pub returns-in_ok-extend_from_slice : goal.returns-in_ok-extend_from_slice
returns-in_ok-extend_from_slice c = search rules
