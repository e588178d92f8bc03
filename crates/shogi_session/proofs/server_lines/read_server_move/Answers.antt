use Rattle.std.proofs.lemmas.Result.{err_from_is_err_and}
use Rattle.csa_text.specs.Saying.{walked}
use Rattle.shogi_session.proofs.ServerReads.{some_statement, then_last, first_fault, later_fault}
use Rattle.shogi_session.proofs.server_lines.read_server_move.Goals as goal

pub next_move-requires : goal.next_move-requires
next_move-requires c =
    some_statement c.args.line.now c.new-cutter.result
    (record { source = c.new-cutter.ensures.source; at = c.new-cutter.ensures.start; number = c.new-cutter.ensures.number })
    c.requires

pub returns-in_err-color : goal.returns-in_err-color
returns-in_err-color c =
    let p = err_from_is_err_and c.from_residual.result c.from_residual.ensures.1 in
    rw (p.1, p.2)
    (first_fault c.args.line.now c.new-cutter.result c.in_err-color.field-0.0
    (record { source = c.new-cutter.ensures.source; at = c.new-cutter.ensures.start; number = c.new-cutter.ensures.number })
    c.in_err-color.ensures)

pub returns-in_err-time : goal.returns-in_err-time
returns-in_err-time c =
    let p = err_from_is_err_and c.from_residual-in_err-time.result c.from_residual-in_err-time.ensures.1 in
    rw (p.1, p.2)
    (later_fault c.args.line.now c.new-cutter.result c.next_move.new.cutter c.in_ok-color.ensures.0 c.in_ok-color.color c.in_ok-color.mv c.in_err-time.field-0.0
    (record { source = c.new-cutter.ensures.source; at = c.new-cutter.ensures.start; number = c.new-cutter.ensures.number })
    c.in_ok-color.ensures.1 c.in_ok-color.ensures.2 c.in_err-time.ensures)

pub returns : goal.returns
returns c =
    then_last c.args.line.now c.new-cutter.result c.next_move.new.cutter c.in_ok-color.ensures.0 (walked c.in_ok-color.color c.in_ok-color.mv) c.in_ok-time.time
    (record { source = c.new-cutter.ensures.source; at = c.new-cutter.ensures.start; number = c.new-cutter.ensures.number })
    c.in_ok-color.ensures.1 c.in_ok-color.ensures.2 c.in_ok-time.ensures
