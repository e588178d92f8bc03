use Rattle.host_and_sample.specs.HostAnswers.{taken, refused}
use Rattle.host_and_sample.proofs.HostLines.{if_ok}
use Rattle.host_and_sample.proofs.HostRows.{not_played}
use Rattle.host_and_sample.proofs.playing.try_move.Goals as goal

pub returns-in-Ok : goal.returns-in-Ok
returns-in-Ok c =
    if_ok c.follow.result _ _ c.follow.ensures (λ r h. taken c.in-Ok.ensures.answer (rw c.in-Ok.ensures.played at h))

pub returns : goal.returns
returns c =
    if_ok c.lose_by_error.result _ _ c.lose_by_error.ensures
    (λ r h. refused (not_played _ _ _ c.in-Err.fault (λ e. let t = c.lacks_memory.ensures.1 e in let f = c.if-lacks_memory.false in cc) c.in-Err.ensures.answer) h.1 h.0)
