use Rattle.usi_text.proofs.LineAgain.{line_again}
use Rattle.usi_text.proofs.laws.line_again.Goals as goal

pub returns : goal.returns
returns c = record { again = line_again }
