use Rattle.shogi_board.specs.Totals.{IsWithinTotals}
use Rattle.shogi_board.proofs.Totals.{rest-within}
use Rattle.shogi_board.proofs.setup.Setup.give_rest.Goals as goal

pub set_hand-requires : goal.set_hand-requires
set_hand-requires c =
    let i = c.self.inside in
    let within : IsWithinTotals c.args.self.now.material = rw (← c.self.view_is) c.self.invariant.0 in
    rw c.hand_with_rest-hand.ensures (rest-within c.args.self.now c.args.color within)
