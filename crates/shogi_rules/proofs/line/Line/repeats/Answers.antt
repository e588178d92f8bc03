use Rattle.std.proofs.Common.{◌∙◌, ap}
use Rattle.shogi_rules.specs.Positions.{Played, all_of, now_of, position_after}
use Rattle.shogi_rules.specs.Repetition.{times}
use Rattle.shogi_rules.proofs.line.Line.repeats.Goals as goal

pub returns : goal.returns
returns c =
    let i = c.self.inside in
    c.repeats.ensures _ (position_after i.start i.moves.items) c.self.invariant.1
    ∙ ap (λ (s : Played). times (all_of s) (now_of s)) c.self.view_is
