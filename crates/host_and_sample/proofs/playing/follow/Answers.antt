use Rattle.std.proofs.Common.{◌∙◌, refl}
use Rattle.host_and_sample.proofs.HostLines.{if_ok}
use Rattle.host_and_sample.proofs.HostRows.{follow_last, follow_host}
use Rattle.host_and_sample.proofs.playing.follow.Goals as goal

pub returns-in-Some : goal.returns-in-Some
returns-in-Some c =
    if_ok c.end_by.result _ _ c.end_by.ensures (λ r h. follow_last _ _ _ _ _ _ _ c.in-Some.ensures
    (c.in_ok-push_move.ensures ∙ rw c.new-lines.ensures.value refl) h.0 h.1)

pub returns-in-None : goal.returns-in-None
returns-in-None c =
    if_ok c.move_host.result _ _ c.move_host.ensures (λ r h. follow_host _ _ _ _ _ _ c.in-None.ensures
    (c.in_ok-push_move.ensures ∙ rw c.new-lines.ensures.value refl) h)
