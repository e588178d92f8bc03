use Rattle.std.proofs.Common.{sym, subst}
use Rattle.shogi_board.specs.Placed.{Placed}
use Rattle.shogi_rules.specs.Repetition.{IsNth}
use Rattle.shogi_rules.proofs.seen.Seen.first.Goals as goal

pub returns : goal.returns
returns c = λ ps p seen.
    let at = c.entry.ensures in
    let kept = rw (sym c.self.view_is) at seen in
    let nth = (kept.counts.each c.self.inside.here c.entry.result.now at).1 in
    subst (λ (q : Placed). IsNth ps q 1 c.entry.result.now.first) (kept.here c.entry.result.now at) nth
