use Rattle.std.proofs.Common.{arith, ◌<◌, ◌≤◌, length, take}
use Rattle.std.proofs.lemmas.List.{length-take-le}
use Rattle.csa_record.proofs.Flowing.{ended_by, no_piece, piece_refused}
use Rattle.csa_record.proofs.flow.feed_next.Goals as goal

pub returns-then-taken-eq0-clause-fed : goal.returns-then-taken-eq0-clause-fed
returns-then-taken-eq0-clause-fed g c = λ bytes h.
    let read = c.in-Ok.ensures in
    let room : 0 < length c.read.new.buffer = omega (arith, c.read.auto.buffer) in
    let none = c.if-taken-eq0.true in
    no_piece bytes c.read.new.buffer c.in-Ok.taken _ _ _ _ _ c.args.reader.now none read.bytes.0 read.bytes.1 room (ended_by (g.S.Source.ended c.args.source.now) (g.S.Source.ended c.read.new.self) c.in-Ok.taken c.read.new.buffer none room read.end) read.count h

pub returns-in-Err-clause-fed : goal.returns-in-Err-clause-fed
returns-in-Err-clause-fed g c = λ bytes h.
    let read = c.in-Ok.ensures in
    let fed = c.in-Err.ensures in
    let short : length (take c.in-Ok.taken c.read.new.buffer) ≤ 4096 = omega (arith, length-take-le c.in-Ok.taken c.read.new.buffer read.within, read.within, c.read.auto.buffer) in
    piece_refused bytes (take c.in-Ok.taken c.read.new.buffer) (g.S.Source.known c.args.source.now) (g.S.Source.known c.read.new.self) (g.S.Source.ended c.read.new.self) (g.S.Source.failed c.args.source.now) (g.S.Source.failed c.read.new.self) c.in-Err.refusal c.from.result c.args.reader.now h short c.from.ensures read.bytes.0 read.count
    (λ more. fed.refused bytes more h) (λ more. fed.memory bytes more h)
