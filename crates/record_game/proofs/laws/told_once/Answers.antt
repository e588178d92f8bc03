use Rattle.record_game.proofs.TellsOnce.{stated_or_refused}
use Rattle.record_game.proofs.laws.told_once.Goals as goal

pub returns : goal.returns
returns c = record {
  once = stated_or_refused;
}
