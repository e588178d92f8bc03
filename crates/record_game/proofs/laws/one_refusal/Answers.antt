use Rattle.record_game.proofs.RefusedOnce.{refused_once}
use Rattle.record_game.proofs.laws.one_refusal.Goals as goal

pub returns : goal.returns
returns c = record {
  once = λ source n m offset other v w p q. refused_once source n offset m other v w p q;
}
