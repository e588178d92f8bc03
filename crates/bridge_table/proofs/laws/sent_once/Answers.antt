use Rattle.bridge_table.proofs.SentRight.{log_sent, sent_once}
use Rattle.bridge_table.proofs.laws.sent_once.Goals as goal

pub returns-clause-answers : goal.returns-clause-answers
returns-clause-answers c = sent_once

pub returns-clause-log : goal.returns-clause-log
returns-clause-log c = log_sent
