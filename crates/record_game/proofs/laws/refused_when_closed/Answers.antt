use Rattle.record_game.proofs.RefusedClosed.{refused_when_closed}
use Rattle.record_game.proofs.laws.refused_when_closed.Goals as goal

pub returns : goal.returns
returns c = record {
  closed = λ source number offset why always. refused_when_closed source number offset why always;
}
