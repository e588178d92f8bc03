use Rattle.csa_record.proofs.Flowing.{record_refused}
use Rattle.csa_record.proofs.flow.read_record.Goals as goal

pub returns-in-Err-clause-read : goal.returns-in-Err-clause-read
returns-in-Err-clause-read g c =
    let finished = c.in-Err.ensures in
    record_refused (g.S.Source.known c.args.source.now) (g.S.Source.known c.feed_all.new.source) (g.S.Source.ended c.feed_all.new.source) (g.S.Source.failed c.args.source.now) (g.S.Source.failed c.feed_all.new.source) c.feed_all.new.reader c.in-Err.refusal c.from.result c.from.ensures c.in_ok-feed_all.ensures.fed finished.refused finished.memory

pub returns-in-Ok-clause-read : goal.returns-in-Ok-clause-read
returns-in-Ok-clause-read g c =
    let fed = c.in_ok-feed_all.ensures.fed in
    (record { bytes = fed.bytes; given = fed.given; ended = fed.at_end; few = fed.few; tells = c.in-Ok.ensures.stated fed.bytes fed.read }, fed.seen, fed.quiet)
