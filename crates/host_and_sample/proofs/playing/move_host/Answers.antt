use Rattle.host_and_sample.proofs.HostLines.{if_ok}
use Rattle.host_and_sample.proofs.HostRows.{host_resigned}
use Rattle.host_and_sample.proofs.playing.move_host.Goals as goal

pub returns-in-None : goal.returns-in-None
returns-in-None c =
    if_ok c.resign.result _ _ c.resign.ensures (λ r h. host_resigned _ _ c.now.result _ _ _ c.now.ensures.value c.in-None.ensures.first h.0 h.1)
