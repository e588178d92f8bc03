use Rattle.std.proofs.Common.{◌≡◌, refl}
use Rattle.shogi_board.specs.Material.{bag_of}
use Rattle.shogi_board.specs.Setup.{one_more}
use Rattle.shogi_board.proofs.Totals.{more-within}
use Rattle.shogi_board.proofs.setup.Setup.put_in_hand.Goals as goal

pub set_hand-requires : goal.set_hand-requires
set_hand-requires c =
    let s = c.args.self.now in
    let more : c.set.new.self ≡ one_more (bag_of s.material c.args.color) c.args.kind = rw (c.set.ensures, c.count.ensures.value, c.hand-hand.ensures.value) refl in
    rw more (more-within s c.args.color c.args.kind c.hand-hand.ensures.within c.requires.fits)
