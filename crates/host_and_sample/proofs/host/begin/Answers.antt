use Rattle.std.proofs.Common.{◌∙◌, refl}
use Rattle.host_and_sample.proofs.HostLines.{if_ok}
use Rattle.host_and_sample.proofs.HostRows.{client_begins, host_begins}
use Rattle.host_and_sample.proofs.host.begin.Goals as goal

pub returns-in-Black : goal.returns-in-Black
returns-in-Black c =
    client_begins _ _ c.even.result _ c.in-Black.is c.in_ok-game.ensures.line c.even.ensures.value
    (c.in_ok-push_joined.ensures.added ∙ rw (c.new-lines.ensures.value, c.as_bytes.ensures.value, c.as_str.ensures.value) refl)

pub returns-in-White : goal.returns-in-White
returns-in-White c =
    if_ok c.move_host.result _ _ c.move_host.ensures (λ r h.
    host_begins _ _ c.even.result _ _ _ c.in-White.is c.in_ok-game.ensures.line c.even.ensures.value
    (c.in_ok-push_joined.ensures.added ∙ rw (c.new-lines.ensures.value, c.as_bytes.ensures.value, c.as_str.ensures.value) refl) h)
