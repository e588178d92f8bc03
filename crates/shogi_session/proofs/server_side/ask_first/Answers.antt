use Rattle.shogi_session.specs.Phases.{begun}
use Rattle.shogi_session.proofs.ServerRows.{first_asked}
use Rattle.shogi_session.proofs.server_side.ask_first.Goals as goal

pub returns-clause-goes_on : goal.returns-clause-goes_on
returns-clause-goes_on c = first_asked c.ask_engine.result _ _ _ (begun c.args.offer.now) c.in_ok-lines.lines _ c.in_ok-lines.ensures.value c.ask_engine.ensures.goes_on
