use Rattle.std.proofs.Common.{rules}
use Rattle.shogi_rules.proofs.Firsts.{first-of-both}
use Rattle.shogi_rules.proofs.search.first_move.Goals as goal

pub returns : goal.returns
returns c = first-of-both c.args.situation.now c.first_walk.result c.or_else.result _ c.first_walk.ensures c.or_else.ensures (λ q. search rules)
