use Rattle.std.proofs.Common.{◌∙◌, sym}
use Rattle.std.proofs.lemmas.Bool.{iff_false}
use Rattle.shogi_board.proofs.Marks.{cell-there, king-goes, king-of, king-stays}
use Rattle.shogi_board.proofs.landmarks.Landmarks.king_after.Goals as goal

pub returns-then-is-2 : goal.returns-then-is-2
returns-then-is-2 c = λ before r h.
    let there = cell-there c.args.cells.now c.args.square c.place.result c.index-cells-place.result c.place.ensures.value c.told-cells in
    king-goes c.args.color before c.args.cells.now c.args.square h.squares h.one_king r.others (r.was ∙ c.is-else-is.ensures.holds.0 c.if-is-2.true)
    (λ k. iff_false c.is.ensures.holds c.if-is.false (there ∙ k))

pub returns-else-is-2 : goal.returns-else-is-2
returns-else-is-2 c = λ before r h.
    let there = cell-there c.args.cells.now c.args.square c.place.result c.index-cells-place.result c.place.ensures.value c.told-cells in
    king-stays c.args.color before c.args.cells.now c.args.square c.args.self.now.king r.others
    (λ k. iff_false c.is-else-is.ensures.holds c.if-is-2.false (sym r.was ∙ k))
    (λ k. iff_false c.is.ensures.holds c.if-is.false (there ∙ k)) (king-of c.args.color before c.args.self.now h)
