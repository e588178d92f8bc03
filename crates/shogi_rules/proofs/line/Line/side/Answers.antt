use Rattle.std.proofs.Common.{◌≡◌, ap, ◌∙◌}
use Rattle.shogi_board.specs.Placed.{Placed}
use Rattle.shogi_rules.specs.Positions.{now_of}
use Rattle.shogi_rules.proofs.line.Line.side.Goals as goal

pub returns : goal.returns
returns c =
    let i = c.self.inside in
    let e : i.last ≡ now_of c.args.self.now = c.self.invariant.2 ∙ ap now_of c.self.view_is in
    c.side.ensures.value ∙ ap (λ (p : Placed). p.side) (c.as_ref.ensures.value ∙ e)
