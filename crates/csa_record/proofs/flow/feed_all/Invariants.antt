use Rattle.std.proofs.Common.{◌≡◌, ◌≤◌, ◌-◌}
use Rattle.csa_record.specs.FlowSteps.{IsFed}
use Rattle.csa_record.proofs.flow.feed_all.Given as goal

abbrev pub invariant-loop-reads : goal.invariant-loop-reads
invariant-loop-reads g l = record {
  within : l.reads ≤ 16777216;
  fed : IsFed (g.S.Source.known l.fn.source) (g.S.Source.known l.source) (g.S.Source.failed l.fn.source) (g.S.Source.failed l.source) l.reads l.reader;
  unended : g.S.Source.ended l.source ≡ g.S.Source.ended l.fn.source;
}

abbrev pub decreases-loop-reads : goal.decreases-loop-reads
decreases-loop-reads g l = 16777216 - l.reads
