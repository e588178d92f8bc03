use Rattle.record_game.proofs.Cuttings.{cut_alike}
use Rattle.record_game.proofs.laws.cuttings_alike.Goals as goal

pub returns : goal.returns
returns c = record {
  same = cut_alike;
}
