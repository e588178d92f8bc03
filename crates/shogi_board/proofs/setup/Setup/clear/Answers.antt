use Rattle.std.proofs.Common.{arith}
use Rattle.shogi_board.specs.Layout.{Layout}
use Rattle.shogi_board.specs.Squares.{place}
use Rattle.shogi_board.proofs.Squares.{place-bound}
use Rattle.shogi_board.proofs.Totals.{count-some, counts-less, off-there, removed-within}
use Rattle.shogi_board.proofs.setup.Setup.clear.Goals as goal

pub put-requires : goal.put-requires
put-requires c =
    let i = c.self.inside in
    let within = removed-within (record { board = i.board; black = i.black; white = i.white }) (place c.args.square) c.self.invariant.0 (place-bound c.args.square) in
    within.kings

pub invariant_of-self : goal.invariant_of-self
invariant_of-self c =
    let i = c.self.inside in
    let s : Layout = record { material = record { board = i.board; black = i.black; white = i.white }; rest_given = i.rest_given } in
    let there = off-there s c.args.square c.args.kind (rw (← c.self.view_is) at c.requires.fits) in
    let low = place-bound c.args.square in
    let counted = counts-less i.board (place c.args.square) c.args.kind (omega (arith, low, c.self.invariant.0.squares)) there in
    rw c.put.ensures (removed-within s.material (place c.args.square) c.self.invariant.0 low, rw (c.place.ensures.value, ← c.self.invariant.1) counted)

pub overflow_sub-self : goal.overflow_sub-self
overflow_sub-self c =
    let i = c.self.inside in
    let s : Layout = record { material = record { board = i.board; black = i.black; white = i.white }; rest_given = i.rest_given } in
    let there = off-there s c.args.square c.args.kind (rw (← c.self.view_is) at c.requires.fits) in
    let low = place-bound c.args.square in
    let some = count-some i.board (place c.args.square) c.args.kind (omega (arith, low, c.self.invariant.0.squares)) (there c.args.kind) in
    rw (c.place.ensures.value, ← c.self.invariant.1) some
