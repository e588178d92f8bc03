use Rattle.std.proofs.Common.{arith, rules, ◌∙◌}
use Rattle.csa_record.proofs.Flowing.{fed_last, fed_next}
use Rattle.csa_record.proofs.flow.feed_all.Goals as goal

pub loop-reads-init : goal.loop-reads-init
loop-reads-init g c = search rules

pub returns-in-End-clause-fed : goal.returns-in-End-clause-fed
returns-in-End-clause-fed g c =
    let step = rw c.in-End.is at c.in_ok-feed_next.ensures.fed in
    fed_last (g.S.Source.known c.args.source.now) (g.S.Source.known c.loop-reads.source) (g.S.Source.known c.feed_next.new.source) (g.S.Source.ended c.feed_next.new.source) (g.S.Source.failed c.args.source.now) (g.S.Source.failed c.loop-reads.source) (g.S.Source.failed c.feed_next.new.source) c.loop-reads.reads c.loop-reads.reader c.feed_next.new.reader c.loop-reads.invariant.within c.loop-reads.invariant.fed step

pub loop-reads-preserved : goal.loop-reads-preserved
loop-reads-preserved g c =
    let step = rw c.in-Piece.is at c.in_ok-feed_next.ensures.fed in
    record {
      within = omega (arith, c.loop-reads-test.true);
      fed = fed_next (g.S.Source.known c.args.source.now) (g.S.Source.known c.loop-reads.source) (g.S.Source.known c.feed_next.new.source) (g.S.Source.ended c.feed_next.new.source) (g.S.Source.failed c.args.source.now) (g.S.Source.failed c.loop-reads.source) (g.S.Source.failed c.feed_next.new.source) c.loop-reads.reads c.loop-reads.reader c.feed_next.new.reader c.loop-reads.invariant.fed step;
      unended = c.in_ok-feed_next.ensures.unended c.in-Piece.is ∙ c.loop-reads.invariant.unended;
    }
