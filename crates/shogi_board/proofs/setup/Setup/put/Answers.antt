use Rattle.std.proofs.Common.{arith}
use Rattle.shogi_board.specs.Layout.{Layout}
use Rattle.shogi_board.specs.Squares.{place}
use Rattle.shogi_board.proofs.Squares.{place-bound}
use Rattle.shogi_board.proofs.Totals.{counts-more, placed-within, place-room}
use Rattle.shogi_board.proofs.setup.Setup.put.Goals as goal

pub put-requires : goal.put-requires
put-requires c =
    let i = c.self.inside in
    let s : Layout = record { material = record { board = i.board; black = i.black; white = i.white }; rest_given = i.rest_given } in
    let room = place-room s c.args.color c.args.square c.args.kind (rw (← c.self.view_is) at c.requires.fits) in
    let within = placed-within s.material c.args.color c.args.kind (place c.args.square) c.self.invariant.0 (place-bound c.args.square) room.0 room.1 in
    within.kings

pub invariant_of-self : goal.invariant_of-self
invariant_of-self c =
    let i = c.self.inside in
    let s : Layout = record { material = record { board = i.board; black = i.black; white = i.white }; rest_given = i.rest_given } in
    let room = place-room s c.args.color c.args.square c.args.kind (rw (← c.self.view_is) at c.requires.fits) in
    let low = place-bound c.args.square in
    let counted = counts-more i.board (place c.args.square) c.args.color c.args.kind (omega (arith, low, c.self.invariant.0.squares)) room.2 in
    rw c.put.ensures (placed-within s.material c.args.color c.args.kind (place c.args.square) c.self.invariant.0 low room.0 room.1, rw (c.place.ensures.value, ← c.self.invariant.1) counted)
