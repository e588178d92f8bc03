use Rattle.shogi_rules.proofs.LastRanks.{pawn-last, lance-last, knight-last}
use Rattle.shogi_rules.proofs.laws.last_ranks.Goals as goal

pub returns : goal.returns
returns c = record { pawn = pawn-last; lance = lance-last; knight = knight-last }
