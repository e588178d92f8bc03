use Rattle.std.proofs.Common.{arith, refl}
use Rattle.csa_text.specs.declared.pair.Pair.TheVariants.{Rest}
use Rattle.csa_text.specs.PairTexts.{IsOnBoard}
use Rattle.csa_text.specs.Saying.{pairs_of}
use Rattle.csa_text.proofs.Texts.{all_from_each}
use Rattle.csa_text.proofs.pairs.Pairs.are_on_board.Goals as goal

pub returns : goal.returns
returns c = (
  λ _. all_from_each IsOnBoard (pairs_of c.args.self.now) Rest
      (λ k less. c.loop-i.invariant k (omega (arith, less, c.loop-i-test.false, c.len-i-end.ensures.count))),
  λ _. refl,
)
