use Rattle.std.proofs.Common.{◌≡◌, refl}
use Rattle.shogi_board.specs.Cells.{at, even_cells, piece}
use Rattle.shogi_board.specs.declared.color.Color.TheVariants.{Black, White}
use Rattle.shogi_board.specs.declared.kind.Kind.TheVariants.{King}
use Rattle.shogi_board.proofs.Marks.{has-landmarks}
use Rattle.shogi_board.proofs.Start.{even-kings}
use Rattle.shogi_board.proofs.board.Board.even.Goals as goal

pub invariant_of-result : goal.invariant_of-result
invariant_of-result c =
    let black : at even_cells c.at_place.result ≡ piece Black King = rw c.at_place.ensures.value refl in
    let white : at even_cells c.at_place-2.result ≡ piece White King = rw c.at_place-2.ensures.value refl in
    rw c.even_cells.ensures (has-landmarks Black even_cells _ refl (even-kings Black) black refl, has-landmarks White even_cells _ refl (even-kings White) white refl)
