use Rattle.shogi_session.proofs.BothEnds.{both_ends}
use Rattle.shogi_session.proofs.laws.both_ends.Goals as goal

pub returns : goal.returns
returns c = record { ends = both_ends }
