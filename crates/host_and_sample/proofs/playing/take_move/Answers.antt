use Rattle.host_and_sample.proofs.HostLines.{if_ok}
use Rattle.host_and_sample.proofs.HostRows.{tried, erred}
use Rattle.host_and_sample.proofs.playing.take_move.Goals as goal

pub returns-in-Some : goal.returns-in-Some
returns-in-Some c =
    if_ok c.try_move.result _ _ c.try_move.ensures (λ r h. tried _ _ _ _ _ _ _ _ c.requires.from_a_sign c.in-Some.ensures.stated h)

pub returns-in-None : goal.returns-in-None
returns-in-None c =
    if_ok c.lose_by_error.result _ _ c.lose_by_error.ensures (λ r h. erred _ _ _ _ _ _ c.requires.from_a_sign c.in-None.ensures.stated h.0 h.1)
