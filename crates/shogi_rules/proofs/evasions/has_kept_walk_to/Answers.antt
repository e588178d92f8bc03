use Rattle.std.proofs.Common.{refl}
use Rattle.shogi_board.proofs.Squares.{all-squares, below-next}
use Rattle.shogi_board.proofs.Tests.{fails}
use Rattle.shogi_rules.proofs.Checks.{KeptWalk}
use Rattle.shogi_rules.proofs.evasions.has_kept_walk_to.Goals as goal

pub returns-then-keeps_walk : goal.returns-then-keeps_walk
returns-then-keeps_walk c = let s = c.if-keeps_walk.ensures.0 refl in (λ _. (c.square_at.result, s.0, s.1), λ _. refl)

pub loop-n-preserved : goal.loop-n-preserved
loop-n-preserved c =
    below-next (λ from. KeptWalk c.args.situation.now from c.args.to → ⊥) c.loop-n.n c.square_at.result c.square_at.ensures c.loop-n.invariant (fails c.keeps_walk.result c.keeps_walk.ensures c.if-keeps_walk.false)

pub returns : goal.returns
returns c = (λ h. cc, λ s. absurd (all-squares (λ from. KeptWalk c.args.situation.now from c.args.to → ⊥) c.loop-n.n c.loop-n-test.false c.loop-n.invariant s.0 (s.1, s.2)))
