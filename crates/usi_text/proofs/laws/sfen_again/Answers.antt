use Rattle.usi_text.proofs.Again.{again}
use Rattle.usi_text.proofs.laws.sfen_again.Goals as goal

pub returns : goal.returns
returns c = record { again = again }
