use Rattle.std.proofs.Common.{◌≡◌, refl}
use Rattle.shogi_board.specs.Material.{bag_of}
use Rattle.shogi_board.specs.Setup.{one_less}
use Rattle.shogi_board.proofs.Totals.{less-within}
use Rattle.shogi_board.proofs.setup.Setup.take_from_hand.Goals as goal

pub set_hand-requires : goal.set_hand-requires
set_hand-requires c =
    let s = c.args.self.now in
    let less : c.set.new.self ≡ one_less (bag_of s.material c.args.color) c.args.kind = rw (c.set.ensures, c.count.ensures.value, c.hand-hand.ensures.value) refl in
    rw less (less-within s c.args.color c.args.kind c.hand-hand.ensures.within c.requires.fits)
