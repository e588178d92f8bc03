use Rattle.host_and_sample.proofs.HostLines.{if_ok}
use Rattle.host_and_sample.proofs.HostRows.{host_moved}
use Rattle.host_and_sample.proofs.playing.play_host.Goals as goal

pub returns : goal.returns
returns c =
    if_ok c.rest.result _ _ c.rest.ensures (λ r h. host_moved _ _ _ c.now.result c.side.result _ _ _ _ _ c.now.ensures.value c.side.ensures.value
    c.requires.first c.in_ok-play_legal.ensures c.in_ok-push_move.ensures h)
