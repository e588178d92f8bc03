use Rattle.record_game.proofs.Placeable.{union_laid_out}
use Rattle.record_game.proofs.laws.union_placed.Goals as goal

pub returns : goal.returns
returns c = record {
  laid = union_laid_out;
}
