use Rattle.std.proofs.Common.{inl, inr, refl}
use Rattle.shogi_board.specs.declared.moves.Move.TheVariants.{Walk, Put}
use Rattle.shogi_rules.proofs.Checks.{by-target}
use Rattle.shogi_rules.proofs.evasions.has_kept_move_to.Goals as goal

pub returns-then-has_kept_walk_to : goal.returns-then-has_kept_walk_to
returns-then-has_kept_walk_to c =
    let s = c.if-has_kept_walk_to.ensures.0 refl in
    (λ _. (Walk s.0 c.args.to s.1, refl, s.2), λ _. c.if-has_kept_walk_to.true)

pub returns-else-has_kept_walk_to : goal.returns-else-has_kept_walk_to
returns-else-has_kept_walk_to c = (
  λ h. let s = c.has_kept_drop_on.ensures.0 h in (Put c.args.to s.0, refl, s.1),
  λ x. elim (by-target c.args.situation.now c.args.to x.0 x.1 x.2) [
    | inl walk ↦ let yes = c.has_kept_walk_to.ensures.1 walk in let none = c.if-has_kept_walk_to.false in cc
    | inr drop ↦ c.has_kept_drop_on.ensures.1 drop
  ],
)
