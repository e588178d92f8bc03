use Rattle.std.proofs.Common.{refl}
use Rattle.shogi_board.specs.Legal.{target}
use Rattle.shogi_board.proofs.Squares.{all-squares, below-next}
use Rattle.shogi_board.proofs.Tests.{fails}
use Rattle.shogi_rules.proofs.Checks.{KeptTo}
use Rattle.shogi_rules.proofs.evasions.has_evasion.Goals as goal

pub returns-then-can_evade_to : goal.returns-then-can_evade_to
returns-then-can_evade_to c = let m = c.if-can_evade_to.ensures.0 refl in (λ _. (m.0, m.2), λ _. refl)

pub loop-n-preserved : goal.loop-n-preserved
loop-n-preserved c =
    below-next (λ t. KeptTo c.args.situation.now t → ⊥) c.loop-n.n c.square_at.result c.square_at.ensures c.loop-n.invariant (fails c.can_evade_to.result c.can_evade_to.ensures c.if-can_evade_to.false)

pub returns : goal.returns
returns c = (λ h. cc, λ m. absurd (all-squares (λ t. KeptTo c.args.situation.now t → ⊥) c.loop-n.n c.loop-n-test.false c.loop-n.invariant (target m.0) (m.0, refl, m.1)))
