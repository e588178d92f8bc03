use Rattle.std.proofs.Common.{◌≡◌, ◌≤◌, set, sym}
use Rattle.shogi_board.specs.Cells.{at}
use Rattle.shogi_board.specs.Totals.{kings_of}
use Rattle.shogi_board.specs.declared.color.Color.{Color}
use Rattle.shogi_board.specs.declared.color.Color.TheVariants.{Black, White}
use Rattle.shogi_board.proofs.Marks.{marks-stay, replaced}
use Rattle.shogi_board.proofs.board.Board.put.Goals as goal

pub invariant_of-self-then-is_landmark : goal.invariant_of-self-then-is_landmark
invariant_of-self-then-is_landmark c =
    let i = c.self.inside in
    let h = c.self.invariant in
    let few : (color : Color) → kings_of (set i.cells c.place.result c.of-cell.result) color ≤ 1 = rw (c.place.ensures.value, c.of-cell.ensures, c.self.view_is) c.requires in
    let was : at i.cells c.args.square ≡ c.cell_at-was.result = rw c.self.view_is (sym c.cell_at-was.ensures) in
    let r = replaced i.cells c.args.square c.place.result c.of-cell.result c.cell_at-was.result c.place.ensures.value was in
    (c.keep_landmarks.ensures.black i.cells r (few Black) h.0, c.keep_landmarks.ensures.white i.cells r (few White) h.1)

pub invariant_of-self : goal.invariant_of-self
invariant_of-self c =
    let i = c.self.inside in
    let h = c.self.invariant in
    let few : (color : Color) → kings_of (set i.cells c.place.result c.of-cell.result) color ≤ 1 = rw (c.place.ensures.value, c.of-cell.ensures, c.self.view_is) c.requires in
    let was : at i.cells c.args.square ≡ c.cell_at-was.result = rw c.self.view_is (sym c.cell_at-was.ensures) in
    let old = c.is_landmark.ensures c.if-is_landmark.false in
    let new = c.is_landmark-else-is_landmark.ensures c.if-is_landmark-2.false in (
      marks-stay Black i.cells c.args.square c.place.result _ _ i.black c.place.ensures.value was (few Black) (old Black) (new Black) h.0,
      marks-stay White i.cells c.args.square c.place.result _ _ i.white c.place.ensures.value was (few White) (old White) (new White) h.1,
    )
