use Rattle.std.proofs.Common.{◌∙◌, inl, inr, refl, sym}
use Rattle.std.proofs.lemmas.Bool.{cases_Bool, iff_false}
use Rattle.shogi_board.proofs.Marks.{back, cell-there, pawn-carried, pawn-on, pawns-of}
use Rattle.shogi_board.proofs.landmarks.Landmarks.pawn_after.Goals as goal

pub returns-then-is : goal.returns-then-is
returns-then-is c = λ before r h. rw (c.has_pawn.ensures, c.file.ensures.value) (pawn-on c.args.color c.args.cells.now c.args.square c.told-cells)

pub returns-then-self-file : goal.returns-then-self-file
returns-then-self-file c = λ before r h.
    let had = rw c.file.ensures.value at c.if-self-file.true in
    let pawn = (pawns-of c.args.color before c.args.self.now h c.args.square).0 had in
    (λ _. pawn-carried c.args.color before c.args.cells.now c.args.square c.args.square r.others (λ _ k. iff_false c.is.ensures.holds c.if-is.false (sym r.was ∙ k)) pawn, λ _. c.if-self-file.true)

pub returns-else-self-file : goal.returns-else-self-file
returns-else-self-file c = λ before r h.
    let there = cell-there c.args.cells.now c.args.square c.place.result c.index-cells-place.result c.place.ensures.value c.told-cells in
    let is = c.is-else-self-file.ensures.holds in
    let none = rw c.file.ensures.value at c.if-self-file.false in (
      λ yes. (c.args.square, refl, sym there ∙ is.0 yes),
      λ pawn.
          elim (cases_Bool c.is-else-self-file.result) [
            | inl on ↦ on
            | inr off ↦ absurd (iff_false (pawns-of c.args.color before c.args.self.now h c.args.square) none (pawn-carried c.args.color c.args.cells.now before c.args.square c.args.square (back c.args.square before c.args.cells.now r.others) (λ _ k. iff_false is off (there ∙ k)) pawn))
          ],
    )
