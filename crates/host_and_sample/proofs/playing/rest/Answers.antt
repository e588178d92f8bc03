use Rattle.host_and_sample.specs.HostAnswers.{rests_last}
use Rattle.host_and_sample.proofs.HostLines.{if_ok}
use Rattle.host_and_sample.proofs.playing.rest.Goals as goal

pub returns-in-Some : goal.returns-in-Some
returns-in-Some c = if_ok c.end_by.result _ _ c.end_by.ensures (λ r h. rests_last c.in-Some.outcome c.in-Some.ensures h.1 h.0)
