use Rattle.std.proofs.Common.{sym, ◌∙◌}
use Rattle.shogi_session.proofs.MoveSame.{move-eq}
use Rattle.shogi_session.proofs.in_play.is_same.Goals as goal

pub returns : goal.returns
returns c =
    let same = move-eq c.args.first c.args.second in
    (λ e. same.0 (sym c.eq.ensures ∙ e), λ e. c.eq.ensures ∙ same.1 e)
