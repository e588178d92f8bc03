use Rattle.std.proofs.Common.{rules}
use Rattle.usi_text.proofs.letters.side_letter.Goals as goal

pub returns-in-White : goal.returns-in-White
returns-in-White c = search rules

pub returns-in-Black : goal.returns-in-Black
returns-in-Black c = search rules
