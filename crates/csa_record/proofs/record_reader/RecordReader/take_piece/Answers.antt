use Rattle.std.proofs.Common.{[], ◌++◌, take, arith, length-drop}
use Rattle.std.proofs.lemmas.Result.{err_from_is_err_and}
use Rattle.csa_record.proofs.Flowing.{never_failed_by}
use Rattle.csa_record.proofs.Steps.{piece_more, piece_refused, rest_whole}
use Rattle.csa_record.proofs.record_reader.RecordReader.take_piece.Goals as goal

pub returns-in_err-used-clause-refused : goal.returns-in_err-used-clause-refused
returns-in_err-used-clause-refused c = λ source h.
    let piece = c.args.piece.now in
    let next = rw (rest_whole c.loop-used.used piece) at c.in_err-used.ensures.next in
    let p = err_from_is_err_and c.from_residual.result c.from_residual.ensures.1 in
    rw (p.1, p.2) (λ more. piece_refused source piece more c.loop-used.used c.in_err-used.field-0.0 (next (source ++ take c.loop-used.used piece) (c.loop-used.invariant.read source h) more))

pub returns-in_err-used-clause-first : goal.returns-in_err-used-clause-first
returns-in_err-used-clause-first c = λ source h.
    let piece = c.args.piece.now in
    let next = rw (rest_whole c.loop-used.used piece) at c.in_err-used.ensures.next in
    let p = err_from_is_err_and c.from_residual.result c.from_residual.ensures.1 in
    rw (p.1, p.2) (never_failed_by _ c.in_err-used.field-0.0 (next (source ++ take c.loop-used.used piece) (c.loop-used.invariant.read source h) []))

pub loop-used-preserved : goal.loop-used-preserved
loop-used-preserved c =
    let piece = c.args.piece.now in
    let next = rw (rest_whole c.loop-used.used piece) at c.in_ok-used.ensures.next in
    let went = rw (rest_whole c.loop-used.used piece) at c.in_ok-used.ensures.used in
    record {
      within = omega (arith, went.1, length-drop c.loop-used.used piece, c.loop-used.invariant.within);
      fed = omega (arith, went.2, c.loop-used.invariant.fed);
      read = λ source h. piece_more source piece c.loop-used.used c.in_ok-used.field-0 c.take_next.new.self (next (source ++ take c.loop-used.used piece) (c.loop-used.invariant.read source h));
    }
