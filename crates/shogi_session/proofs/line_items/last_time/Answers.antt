use Rattle.std.proofs.Common.{inl}
use Rattle.std.proofs.lemmas.Result.{err_from_is_err_and}
use Rattle.session_lines.specs.ServerLines.{IsTime}
use Rattle.shogi_session.proofs.Nexts.{other_item, time_then}
use Rattle.shogi_session.proofs.line_items.last_time.Goals as goal

pub returns-in_err-expect_end-in-Some-time_of : goal.returns-in_err-expect_end-in-Some-time_of
returns-in_err-expect_end-in-Some-time_of c =
    let p = err_from_is_err_and c.from_residual-in_err-expect_end-in-Some-time_of.result c.from_residual-in_err-expect_end-in-Some-time_of.ensures.1 in
    rw (p.1, p.2)
    (time_then c.args.cutter.now c.next_item.new.cutter c.in-Some.item c.in-Some-time_of.thousandths c.in_err-expect_end-in-Some-time_of.field-0.0
    (rw c.in-Some.is at c.in_ok-item.ensures) c.in-Some-time_of.ensures c.in_err-expect_end-in-Some-time_of.ensures)

pub returns-in-None : goal.returns-in-None
returns-in-None c =
    inl (other_item c.args.cutter.now c.next_item.new.cutter c.in-Some.item IsTime (rw c.in-Some.is at c.in_ok-item.ensures)
    (λ said. c.in-None.ensures said.0 said.1))
