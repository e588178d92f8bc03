use Rattle.std.proofs.Common.{arith}
use Rattle.shogi_rules.specs.Positions.{begun}
use Rattle.shogi_rules.proofs.line.Line.new.Goals as goal

pub invariant_of-result : goal.invariant_of-result
invariant_of-result c = (
  record {
    game = rw c.in_ok-with_capacity.ensures.items begun;
    few = rw c.in_ok-with_capacity.ensures.items (omega arith);
  },
  rw (c.in_ok-with_capacity.ensures.items, ← c.from-last.ensures.0) c.in_ok-new.ensures,
  rw c.in_ok-with_capacity.ensures.items c.from-last.ensures.0,
  c.from-last.ensures.1,
)
