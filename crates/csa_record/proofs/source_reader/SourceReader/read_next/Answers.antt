use Rattle.csa_record.proofs.Flowing.{record_refused}
use Rattle.csa_record.proofs.source_reader.SourceReader.read_next.Goals as goal
use Rattle.csa_record.proofs.source_reader.SourceReader.read_next.Goals.{in-Ok, in-Err}

pub returns-clause-read : goal.returns-clause-read
returns-clause-read g c =
    let fed = c.in_ok-fed.ensures.fed in
    let finished = c.finish_anew-ended.ensures in
    elim c.match-ended-4.branch [
      | in-Ok w ↦
          let stated = rw w.in-Ok.is at finished.stated in
          rw w.result-is (record { bytes = fed.bytes; given = fed.given; ended = fed.at_end; few = fed.few; tells = stated fed.bytes fed.read }, fed.seen, fed.quiet)
      | in-Err w ↦
          let refused = rw w.in-Err.is at finished.refused in
          let memory = rw w.in-Err.is at finished.memory in
          rw w.result-is (record_refused (g.S.Source.known c.args.source.now) (g.S.Source.known c.feed_all-fed.new.source) (g.S.Source.ended c.feed_all-fed.new.source) (g.S.Source.failed c.args.source.now) (g.S.Source.failed c.feed_all-fed.new.source) c.feed_all-fed.new.reader w.in-Err.refusal w.from.result w.from.ensures fed refused memory)
    ]
