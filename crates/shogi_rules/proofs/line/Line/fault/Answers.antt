use Rattle.std.proofs.Common.{◌≡◌, ap, ◌∙◌}
use Rattle.shogi_rules.specs.Positions.{now_of}
use Rattle.shogi_rules.proofs.Games.{breaks-of, broken-answer}
use Rattle.shogi_rules.proofs.line.Line.fault.Goals as goal

pub returns : goal.returns
returns c =
    let i = c.self.inside in
    let line = c.args.self.now in
    let e : c.as_ref.result.now ≡ now_of line = c.as_ref.ensures.value ∙ (c.self.invariant.2 ∙ ap now_of c.self.view_is) in
    let breaks = breaks-of line c.as_ref.result.now c.args.mover c.args.mv.now _ e c.in_default.ensures c.broken_by_side.ensures in
    record { answer = broken-answer line c.args.mover c.args.mv.now c.broken_by_side.result c.map.result _ c.in_default.ensures.few breaks c.map.ensures.cases (λ r f e. e) }
