use Rattle.std.proofs.Common.{◌∙◌, ap, sym}
use Rattle.shogi_rules.specs.Repetition.{times}
use Rattle.shogi_rules.proofs.seen.Seen.repeats.Goals as goal

pub returns : goal.returns
returns c = λ ps p seen.
    let at = c.entry.ensures in
    let kept = rw (sym c.self.view_is) at seen in
    (kept.counts.each c.self.inside.here c.entry.result.now at).0 ∙ ap (times ps) (kept.here c.entry.result.now at)
