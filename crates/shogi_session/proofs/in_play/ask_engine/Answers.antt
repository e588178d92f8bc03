use Rattle.std.proofs.Common.{ap, ◌∙◌}
use Rattle.shogi_session.specs.Phases.{match_in}
use Rattle.shogi_session.proofs.PlayRows.{goes_on, open_match}
use Rattle.shogi_session.proofs.in_play.ask_engine.Goals as goal

pub returns-clause-goes_on : goal.returns-clause-goes_on
returns-clause-goes_on c = λ p side same.
    let stated = c.in_ok-question.ensures (match_in p) side (open_match p (ap (λ g. g.ending) same ∙ c.requires) ∙ same) in
    goes_on _ _ _ p c.args.lines stated.0 c.in_ok-question.question c.to_engine.result stated.2 c.engine_after.ensures
    (c.to_engine.ensures.engine ∙ stated.1) c.to_engine.ensures.server c.to_engine.ensures.status
