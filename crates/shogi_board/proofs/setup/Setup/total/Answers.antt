use Rattle.std.proofs.Common.{◌≡◌, count_by, refl, slice_index}
use Rattle.shogi_board.specs.Totals.{is_of}
use Rattle.shogi_board.proofs.Totals.{count-at}
use Rattle.shogi_board.proofs.setup.Setup.total.Goals as goal

pub returns-clause-value : goal.returns-clause-value
returns-clause-value c =
    let i = c.self.inside in
    let board : slice_index i.counts c.place.result ≡ count_by (is_of c.args.kind) i.board = rw (c.place.ensures.value, ← c.self.invariant.1) (count-at i.board c.args.kind) in
    rw (← c.self.view_is, board, c.at_place_of.ensures, c.at_place_of-2.ensures) refl

pub returns-clause-bound : goal.returns-clause-bound
returns-clause-bound c =
    let i = c.self.inside in
    let board : slice_index i.counts c.place.result ≡ count_by (is_of c.args.kind) i.board = rw (c.place.ensures.value, ← c.self.invariant.1) (count-at i.board c.args.kind) in
    rw (board, c.at_place_of.ensures, c.at_place_of-2.ensures) (c.self.invariant.0.totals c.args.kind)
