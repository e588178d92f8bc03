use Rattle.std.proofs.Common.{arith, Some, Err, length, ap, refl, subst, ◌≡◌}
use Rattle.std.specs.Io.Buffered.{reader_buffer, reader_remaining}
use Rattle.std.specs.Io.BufRead.{FillKeeps}
use Rattle.record_commands.proofs.LineReading.{begins_long, cut_stops, end_line, none_over, piece_line, piece_long, piece_none, some_of}
use Rattle.record_commands.proofs.incoming.next_event.Goals as goal

pub returns-in-Kept-clause-event : goal.returns-in-Kept-clause-event
returns-in-Kept-clause-event g c =
    let remaining = reader_remaining g.R.Read.remaining in
    let cutter = c.args.cutter.now in
    let old = remaining c.args.reader.now in
    let lender = c.fill_buf.follows.lender-at-none in
    let kept = subst (λ r. FillKeeps old (remaining lender) (Some (length (reader_buffer lender))) r) c.in-Ok.is c.fill_buf.follows.holds-at-none in
    let none : length c.in-Ok.piece.now ≡ 0 = grind (arith, c.if-is_empty.ensures) in
    let line = c.in_ok-keep_last.ensures.line c.in-Kept.is in
    let gives = end_line old (remaining lender) cutter.held (none_over old c.in-Ok.piece.now c.in-Ok.ensures.end none) kept.0 c.requires.run line.1 in
    (rw (c.in_ok-keep_last.ensures.empty, line.0) gives, rw line.0 c.requires.short)

pub returns-clause-event : goal.returns-clause-event
returns-clause-event g c =
    let remaining = reader_remaining g.R.Read.remaining in
    let old = remaining c.args.reader.now in
    let lender = c.fill_buf.follows.lender-at-none in
    let kept = subst (λ r. FillKeeps old (remaining lender) (Some (length (reader_buffer lender))) r) c.in-Ok.is c.fill_buf.follows.holds-at-none in
    let line = some_of _ _ _ c.in-Some.is c.in_ok-used.ensures.line in
    let gives = piece_line old (remaining lender) (remaining c.consume-2.new.self) c.in-Ok.piece.now c.args.cutter.now.held c.cut.new.kept.items c.in-Some.used (length (reader_buffer lender))
    c.in-Ok.ensures.front kept.0 kept.1 c.consume-2.ensures.bytes line.0 line.2 in
    (rw line.1 gives, some_of _ _ _ c.in-Some.is c.in_ok-used.ensures.short c.requires)

pub returns-in_default-clause-event : goal.returns-in_default-clause-event
returns-in_default-clause-event g c =
    let remaining = reader_remaining g.R.Read.remaining in
    let old = remaining c.args.reader.now in
    let lender = c.fill_buf.follows.lender-at-none in
    let kept = subst (λ r. FillKeeps old (remaining lender) (Some (length (reader_buffer lender))) r) c.in-Ok.is c.fill_buf.follows.holds-at-none in
    piece_none old (remaining lender) (remaining c.consume.new.self) c.in-Ok.piece.now c.args.cutter.now.held c.cut.new.cutter.held (length c.in-Ok.piece.now) (length (reader_buffer lender))
    c.in-Ok.ensures.front kept.0 kept.1 c.consume.ensures.bytes refl (c.in_ok-used.ensures.none c.in_default.is)

pub returns-in_err-used-clause-stop : goal.returns-in_err-used-clause-stop
returns-in_err-used-clause-stop g c =
    cut_stops _ _ c.in_err-used.field-0.0 _ c.from_residual-in_err-used.ensures.1 (λ is.
    let remaining = reader_remaining g.R.Read.remaining in
    let old = remaining c.args.reader.now in
    let lender = c.fill_buf.follows.lender-at-none in
    let kept = subst (λ r. FillKeeps old (remaining lender) (Some (length (reader_buffer lender))) r) c.in-Ok.is c.fill_buf.follows.holds-at-none in
    let cutter = c.args.cutter.now in
    let long = c.in_err-used.ensures.long (ap Err is) in
    let gives = piece_long old (remaining lender) c.in-Ok.piece.now cutter.held c.in-Ok.ensures.front kept.0 (begins_long cutter c.in-Ok.piece.now c.requires long.1) in
    rw long.0 gives)
