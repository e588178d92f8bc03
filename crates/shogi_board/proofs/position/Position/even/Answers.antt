use Rattle.std.proofs.Common.{refl}
use Rattle.shogi_board.proofs.Start.{even-sound-for}
use Rattle.shogi_board.proofs.position.Position.even.Goals as goal

pub invariant_of-result : goal.invariant_of-result
invariant_of-result c =
    rw (c.even.ensures, c.empty.ensures, c.empty-2.ensures) (record { sound = even-sound-for _; key = refl })
