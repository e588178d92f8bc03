use Rattle.record_game.proofs.Canonical.{canon_tells_lem}
use Rattle.record_game.proofs.laws.canon_tells.Goals as goal

pub returns : goal.returns
returns c = record {
  tells = canon_tells_lem;
}
