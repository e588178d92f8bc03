use Rattle.std.proofs.Common.{◌≡◌, false, refl}
use Rattle.shogi_board.specs.Pieces.{opponent}
use Rattle.shogi_board.specs.Reach.{InCheck}
use Rattle.shogi_board.proofs.setup.Setup.finish.Goals as goal

pub returns-then-leaves_check-clause-answer : goal.returns-then-leaves_check-clause-answer
returns-then-leaves_check-clause-answer c = (c.leaves_check.ensures.value.0 c.if-leaves_check.true, refl)

pub of-requires : goal.of-requires
of-requires c = record {
  within = c.self.invariant.0;
  safe = λ check.
      let there : InCheck c.args.self.now.material.board (opponent c.args.side) = rw (← c.self.view_is) check in
      let yes = c.leaves_check.ensures.value.1 there in
      let no : c.leaves_check.result ≡ false = c.if-leaves_check.false in
      cc;
}

pub returns-clause-sound : goal.returns-clause-sound
returns-clause-sound c = rw c.of.ensures (record {
  within = c.self.invariant.0;
  safe = λ check.
      let there : InCheck c.args.self.now.material.board (opponent c.args.side) = rw (← c.self.view_is) check in
      let yes = c.leaves_check.ensures.value.1 there in
      let no : c.leaves_check.result ≡ false = c.if-leaves_check.false in
      cc;
})
