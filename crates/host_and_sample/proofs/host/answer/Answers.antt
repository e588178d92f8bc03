use Rattle.std.proofs.Common.{rules}
use Rattle.host_and_sample.proofs.HostLines.{if_ok}
use Rattle.host_and_sample.proofs.host.answer.Goals as goal

pub returns-in-Waiting-clause-row : goal.returns-in-Waiting-clause-row
returns-in-Waiting-clause-row c = if_ok c.log_in.result _ _ (c.log_in.ensures c.args.seconds) (λ r h. rw c.in-Waiting.is h)

pub returns-in-Offering-clause-row : goal.returns-in-Offering-clause-row
returns-in-Offering-clause-row c = if_ok c.agree.result _ _ (c.agree.ensures c.args.seconds) (λ r h. rw c.in-Offering.is h)

pub returns-in-Playing-clause-row : goal.returns-in-Playing-clause-row
returns-in-Playing-clause-row c = if_ok c.answer_in_play.result _ _ c.answer_in_play.ensures (λ r h. rw c.in-Playing.is h)

pub returns-in-Decided-clause-row : goal.returns-in-Decided-clause-row
returns-in-Decided-clause-row c = search rules
