use Rattle.std.proofs.Common.{◌∙◌, ap}
use Rattle.shogi_rules.specs.Positions.{now_of}
use Rattle.shogi_rules.proofs.line.Line.now.Goals as goal

pub returns : goal.returns
returns c =
    let i = c.self.inside in
    record { value = c.as_ref.ensures.value ∙ (c.self.invariant.2 ∙ ap now_of c.self.view_is) }
