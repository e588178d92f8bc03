use Rattle.record_game.proofs.SaysOnce.{tells_once}
use Rattle.record_game.proofs.laws.one_game.Goals as goal

pub returns : goal.returns
returns c = record {
  once = tells_once;
}
