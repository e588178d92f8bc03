use Rattle.std.proofs.Common.{◌<◌, ◌∙◌, arith, length, sym, subst}
use Rattle.shogi_session.specs.SummaryFaults.{long_black, long_white, no_turn}
use Rattle.shogi_session.proofs.offer.read_client.Goals.{then-black-gt4094-via-then-black-gt4094, then-black-gt4094-via-else-black-gt4094+then-white-gt4094}
use Rattle.shogi_session.proofs.offer.read_client.Goals as goal

pub returns-then-black-gt4094 : goal.returns-then-black-gt4094
returns-then-black-gt4094 c = λ h black white turn. elim c.then-black-gt4094.branch [
  | then-black-gt4094-via-then-black-gt4094 w ↦
      long_black (subst (λ l. 4094 < length l) (sym black) (omega (arith, w.if-black-gt4094.true)))
  | then-black-gt4094-via-else-black-gt4094+then-white-gt4094 w ↦
      long_white (subst (λ l. 4094 < length l) (sym white) (omega (arith, w.if-white-gt4094.true)))
]

pub returns-in_default : goal.returns-in_default
returns-in_default c = λ h black white turn. no_turn (λ color is. c.in_default.ensures color (sym turn ∙ is))
