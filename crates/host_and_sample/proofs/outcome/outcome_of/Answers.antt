use Rattle.host_and_sample.proofs.outcome.outcome_of.Goals as goal

pub returns-then-is_over : goal.returns-then-is_over
returns-then-is_over c = c.outcome_of_repetition.ensures c.args.config.now
