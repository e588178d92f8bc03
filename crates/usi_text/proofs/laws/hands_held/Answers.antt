use Rattle.usi_text.proofs.Counted.{hands_counted}
use Rattle.usi_text.proofs.laws.hands_held.Goals as goal

pub returns : goal.returns
returns c = record { piles = hands_counted }
