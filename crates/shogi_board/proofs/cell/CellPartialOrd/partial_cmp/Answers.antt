use Rattle.std.proofs.Common.{◌≡◌, ◌∙◌, ap, sym}
use Rattle.shogi_board.specs.Contents.{code_of, code-back}
use Rattle.shogi_board.proofs.cell.CellPartialOrd.partial_cmp.Goals as goal

pub returns : goal.returns
returns c =
    let one : c.t1-1.inside.code ≡ code_of c.args.self.now = sym (code-back c.t1-1.inside.code) ∙ ap code_of c.t1-1.view_is in
    let two : c.t2-1.inside.code ≡ code_of c.args.other.now = sym (code-back c.t2-1.inside.code) ∙ ap code_of c.t2-1.view_is in
    rw (← one, ← two) c.partial_cmp.ensures
