use Rattle.record_game.proofs.LaidOut.{laid_out_gives}
use Rattle.record_game.proofs.laws.laid_out.Goals as goal

pub returns : goal.returns
returns c = record {
  places = laid_out_gives;
}
