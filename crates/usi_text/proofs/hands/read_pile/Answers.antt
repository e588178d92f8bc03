use Rattle.std.proofs.Common.{rules, arith}
use Rattle.std.proofs.lemmas.Grind.{common_steps}
use Rattle.usi_text.proofs.hands.read_pile.Goals as goal

pub returns-clause-pile : goal.returns-clause-pile
returns-clause-pile c = (
  record { count = c.read_count-count.result.0; piece = c.in_ok-piece.piece },
  (c.read_count-count.ensures.read.0, search rules),
  search rules,
  grind (arith, common_steps),
)
