use Rattle.shogi_session.proofs.GameEnds.{ending_time}
use Rattle.shogi_session.proofs.in_play.keep_ending.Goals as goal

pub end_with-requires-clause-time : goal.end_with-requires-clause-time
end_with-requires-clause-time c = ending_time c.args.line.now (record { ending = c.in-Some.ending; time = c.in-Some.time }) c.in-Some.ensures
