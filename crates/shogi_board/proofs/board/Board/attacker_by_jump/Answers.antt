use Rattle.std.proofs.Common.{◌≡◌, ◌<◌, List, subst, sym, get_or, length, arith, inl, inr, ap, ◌∙◌}
use Rattle.std.proofs.lemmas.Bool.{cases_lt}
use Rattle.std.proofs.lemmas.List.{get_or_default}
use Rattle.shogi_board.specs.Attackers.{KnightAcross}
use Rattle.shogi_board.specs.Moves.{steps}
use Rattle.shogi_board.specs.Squares.{Direction}
use Rattle.shogi_board.specs.declared.kind.Kind.TheVariants.{Knight}
use Rattle.shogi_board.proofs.board.Board.attacker_by_jump.Goals as goal

pub loop-direction-preserved : goal.loop-direction-preserved
loop-direction-preserved c k d below e attack =
    elim (cases_lt k c.loop-direction.direction-index) [
      | inl lt ↦ c.loop-direction.invariant k d lt e attack
      | inr ge ↦
          let n = c.loop-direction.direction-index in
          let last : k ≡ n = omega arith in
          let xs = steps Knight in
          let within : n < length xs = c.loop-direction-test.true in
          let here : get_or xs n d ≡ d = rw last at e in
          let same : (x : Direction) → get_or c.jumps-direction-items.result n x ≡ d = λ x. ap (λ (ds : List Direction). get_or ds n x) c.jumps-direction-items.ensures ∙ (get_or_default xs n x d within ∙ here) in
          c.in_default.ensures (subst (λ x. KnightAcross c.args.self.now c.args.color c.args.square x) (sym (same _)) attack)
    ]
