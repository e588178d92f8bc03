use Rattle.std.proofs.lemmas.Result.{err_from_is_err_and}
use Rattle.csa_record.proofs.Flowing.{never_failed_by}
use Rattle.csa_record.proofs.Steps.{refused_of, memory_of, end_report, missing_of}
use Rattle.csa_record.proofs.record_reader.end.Goals as goal

pub returns-in_err-take_last-clause-refused : goal.returns-in_err-take_last-clause-refused
returns-in_err-take_last-clause-refused c = λ source h.
    let p = err_from_is_err_and c.from_residual.result c.from_residual.ensures.1 in
    rw (p.1, p.2) (refused_of source c.in_err-take_last.field-0.0 (c.in_err-take_last.ensures source h.taken))

pub returns-in_err-take_last-clause-memory : goal.returns-in_err-take_last-clause-memory
returns-in_err-take_last-clause-memory c = λ source h.
    let p = err_from_is_err_and c.from_residual.result c.from_residual.ensures.1 in
    rw (p.1, p.2) (memory_of source c.in_err-take_last.field-0.0 (c.in_err-take_last.ensures source h.taken))

pub returns-in-Some-finish-clause-stated : goal.returns-in-Some-finish-clause-stated
returns-in-Some-finish-clause-stated c = λ source h.
    end_report source c.take_last.new.cutter c.take_last.new.builder c.in-Some-finish.record (c.in_ok-take_last.ensures source h.taken) c.in-Some-finish.ensures

pub returns-in-None-clause-refused : goal.returns-in-None-clause-refused
returns-in-None-clause-refused c = λ source h.
    λ some. rw (c.statements.ensures.count, c.fed-length.ensures.count)
    (missing_of source c.args.cutter.now c.take_last.new.cutter c.args.builder c.take_last.new.builder h.taken (c.in_ok-take_last.ensures source h.taken) c.in-None.ensures)

pub returns-in_err-take_last-clause-first : goal.returns-in_err-take_last-clause-first
returns-in_err-take_last-clause-first c = λ source h.
    let p = err_from_is_err_and c.from_residual.result c.from_residual.ensures.1 in
    rw (p.1, p.2) (never_failed_by source c.in_err-take_last.field-0.0 (c.in_err-take_last.ensures source h.taken))
