use Rattle.std.proofs.Common.{refl}
use Rattle.shogi_board.specs.declared.moves.Move.TheVariants.{Walk}
use Rattle.shogi_board.proofs.Tests.{fails}
use Rattle.shogi_rules.specs.Evasions.{StopsCheck}
use Rattle.shogi_rules.proofs.Checks.{stops-there}
use Rattle.shogi_rules.proofs.evasions.can_evade_to.Goals as goal

pub returns-then-keeps_walk : goal.returns-then-keeps_walk
returns-then-keeps_walk c =
    let kept = c.if-keeps_walk.ensures.0 refl in
    (λ _. (Walk c.args.king c.args.to kept.0, refl, kept.1), λ _. refl)

pub returns-then-may_stop_check : goal.returns-then-may_stop_check
returns-then-may_stop_check c = c.has_kept_move_to.ensures

pub returns-else-may_stop_check : goal.returns-else-may_stop_check
returns-else-may_stop_check c = (
  λ h. cc,
  λ m.
      let stays = fails c.keeps_walk.result c.keeps_walk.ensures c.if-keeps_walk.false in
      let passes : StopsCheck c.args.checker c.args.king c.args.to → ⊥ = λ stop. let yes = c.may_stop_check.ensures stop in let no = c.if-may_stop_check.false in cc in
      absurd (stops-there c.args.situation.now c.args.checker c.args.king c.args.to m.0 c.requires.sound c.requires.king c.requires.check stays m.1 m.2 passes),
)
