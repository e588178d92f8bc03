use Rattle.std.proofs.Common.{◌<◌}
use Rattle.shogi_board.specs.Pieces.{place_of}
use Rattle.shogi_board.specs.declared.kind.Kind.{Kind}
use Rattle.shogi_rules.specs.Trying.{IsDropOf, NoneOf}
use Rattle.shogi_rules.proofs.search.first_drop.Given as goal

abbrev pub invariant-loop-n : goal.invariant-loop-n
invariant-loop-n l = (k : Kind) → place_of k < l.n → NoneOf l.situation (IsDropOf k)
