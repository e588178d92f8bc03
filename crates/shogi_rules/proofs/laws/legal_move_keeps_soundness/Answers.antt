use Rattle.shogi_board.proofs.Kept.{leads-to-sound}
use Rattle.shogi_rules.proofs.laws.legal_move_keeps_soundness.Goals as goal

pub returns : goal.returns
returns c = record {
  sound = λ p m sound legal. leads-to-sound p m sound legal.keeps;
  kept = leads-to-sound;
}
