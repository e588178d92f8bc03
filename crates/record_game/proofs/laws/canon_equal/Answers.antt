use Rattle.std.proofs.Common.{List, ℕ, ap, subst}
use Rattle.record_game.specs.Canon.{canon}
use Rattle.record_game.specs.Tells.{Tells}
use Rattle.record_game.proofs.Canonical.{canon_tells_lem}
use Rattle.record_game.proofs.SaysOnce.{tells_once}
use Rattle.record_game.proofs.laws.canon_equal.Goals as goal

pub returns : goal.returns
returns c = record {
  equal = λ g h p q. (λ e. tells_once (canon h) g h (subst (λ (xs : List ℕ). Tells xs g) e (canon_tells_lem g p)) (canon_tells_lem h q), λ e. ap canon e);
}
