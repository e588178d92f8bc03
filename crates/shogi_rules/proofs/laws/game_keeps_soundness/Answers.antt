use Rattle.shogi_rules.proofs.Games.{game-sound}
use Rattle.shogi_rules.proofs.laws.game_keeps_soundness.Goals as goal

pub returns : goal.returns
returns c = record {
  sound = game-sound;
}
