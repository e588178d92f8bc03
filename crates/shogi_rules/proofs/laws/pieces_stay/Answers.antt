use Rattle.shogi_board.proofs.Kept.{pieces-stay}
use Rattle.shogi_rules.proofs.laws.pieces_stay.Goals as goal

pub returns : goal.returns
returns c = record {
  totals = λ p m kind sound legal. pieces-stay p m kind sound legal.keeps.fits;
}
