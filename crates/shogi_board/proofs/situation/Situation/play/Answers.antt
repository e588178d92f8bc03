use Rattle.std.proofs.Common.{[], ◌∷◌, subst}
use Rattle.shogi_board.specs.Legal.{Keeps}
use Rattle.shogi_board.specs.Placed.{Placed}
use Rattle.shogi_board.specs.Rules.{KeepsRule, board_rules}
use Rattle.shogi_board.specs.declared.rule.Rule.TheVariants.{LeavesKing}
use Rattle.shogi_board.proofs.Broken.{broken-longer, leaves-king}
use Rattle.shogi_board.proofs.Kept.{leads-to-sound}
use Rattle.shogi_board.proofs.Tests.{fails}
use Rattle.shogi_board.proofs.situation.Situation.play.Goals as goal

pub returns-in-Some-clause-answer : goal.returns-in-Some-clause-answer
returns-in-Some-clause-answer c =
    rw (← c.self.view_is) (broken-longer (KeepsRule c.self.inside.position c.args.mv.now) board_rules (LeavesKing ∷ []) c.in-Some.rule c.in-Some.ensures)

pub invariant_of-self : goal.invariant_of-self
invariant_of-self c = rw (c.make.ensures.unchanged c.if-not-make.true) c.self.invariant

pub returns-then-not-make-clause-answer : goal.returns-then-not-make-clause-answer
returns-then-not-make-clause-answer c =
    let bare = fails c.make.result c.make.ensures.safe c.if-not-make.true in
    rw (← c.self.view_is) (leaves-king c.self.inside.position c.args.mv.now c.in_default.ensures bare)

pub returns-clause-answer : goal.returns-clause-answer
returns-clause-answer c =
    let kept : Keeps c.self.inside.position c.args.mv.now = record { fits = c.in_default.ensures; king_safe = c.make.ensures.safe.0 c.if-not-make.false } in
    subst (λ (p : Placed). Keeps p c.args.mv.now) c.self.view_is kept

pub invariant_of-self-2 : goal.invariant_of-self-2
invariant_of-self-2 c =
    let p = c.self.inside.position in
    let kept : Keeps p c.args.mv.now = record { fits = c.in_default.ensures; king_safe = c.make.ensures.safe.0 c.if-not-make.false } in
    (rw (c.make.ensures.value c.if-not-make.false) (leads-to-sound p c.args.mv.now c.self.invariant.0 kept), c.checker_after-self-inside.ensures)
