use Rattle.std.proofs.Common.{arith, ◌+◌, ◌<◌, take}
use Rattle.std.proofs.lemmas.List.{length-take-le}
use Rattle.std.proofs.lemmas.Result.{err_from_is_err_and}
use Rattle.session_commands.proofs.Talks.{read_fault, talk_begins, piece_came, fell_silent, never_ends, talk_ends, piece_finishes, piece_goes_on}
use Rattle.session_commands.proofs.talk.answer_all.Goals as goal

pub loop-pieces-init : goal.loop-pieces-init
loop-pieces-init g c =
    talk_begins g.X.Wire.came g.X.Wire.ends g.X.Wire.went g.M.Machine.answers c.args.wire.now c.args.machine.now c.new-cutter.result c.new-cutter.ensures.held c.new-cutter.ensures.limit c.new-cutter.ensures.failed

pub returns-in_err-taken-clause-breaks_off : goal.returns-in_err-taken-clause-breaks_off
returns-in_err-taken-clause-breaks_off g c =
    let p = err_from_is_err_and c.from_residual.result c.from_residual.ensures.1 in
    rw (p.1, p.2)
    (fell_silent g.X.Wire.came g.X.Wire.ends g.X.Wire.went g.X.Wire.silent g.X.Wire.blocked g.M.Machine.answers c.args.wire.now c.args.machine.now c.loop-pieces._pieces c.loop-pieces.cutter c.loop-pieces.wire c.receive.new.self c.loop-pieces.machine _ (read_fault c.in_err-taken.field-0.0) c.loop-pieces.invariant c.in_err-taken.ensures.silent)

pub returns-then-taken-eq0-clause-answered : goal.returns-then-taken-eq0-clause-answered
returns-then-taken-eq0-clause-answered g c =
    (talk_ends g.X.Wire.came g.X.Wire.ends g.X.Wire.went g.X.Wire.silent g.X.Wire.blocked g.M.Machine.answers c.loop-pieces.cutter c.receive.new.self c.answer_last.new.wire c.loop-pieces.machine c.answer_last.new.machine c.answer_last.result c.args.wire.now c.args.machine.now c.loop-pieces._pieces c.loop-pieces.wire c.answer_last.ensures.talk c.loop-pieces.invariant (c.in_ok-taken.ensures.ends c.if-taken-eq0.true)).0

pub returns-then-taken-eq0-clause-breaks_off : goal.returns-then-taken-eq0-clause-breaks_off
returns-then-taken-eq0-clause-breaks_off g c =
    (talk_ends g.X.Wire.came g.X.Wire.ends g.X.Wire.went g.X.Wire.silent g.X.Wire.blocked g.M.Machine.answers c.loop-pieces.cutter c.receive.new.self c.answer_last.new.wire c.loop-pieces.machine c.answer_last.new.machine c.answer_last.result c.args.wire.now c.args.machine.now c.loop-pieces._pieces c.loop-pieces.wire c.answer_last.ensures.talk c.loop-pieces.invariant (c.in_ok-taken.ensures.ends c.if-taken-eq0.true)).1

pub returns-clause-breaks_off : goal.returns-clause-breaks_off
returns-clause-breaks_off g c =
    never_ends g.X.Wire.came g.X.Wire.ends g.X.Wire.went g.X.Wire.silent g.X.Wire.blocked g.M.Machine.answers c.args.wire.now c.args.machine.now c.loop-pieces._pieces c.loop-pieces.cutter c.loop-pieces.wire c.loop-pieces.machine c.loop-pieces.invariant (omega (arith, c.loop-pieces-test.false))

pub returns-in-Ended-clause-answered : goal.returns-in-Ended-clause-answered
returns-in-Ended-clause-answered g c =
    let some : 0 < c.in_ok-taken.taken = omega (arith, c.if-taken-eq0.false) in
    let size = length-take-le c.in_ok-taken.taken c.receive.new.buffer c.in_ok-taken.ensures.within in
    let fed = piece_came g.X.Wire.came g.X.Wire.ends g.X.Wire.went g.M.Machine.answers c.args.wire.now c.args.machine.now c.loop-pieces._pieces c.loop-pieces.cutter (take c.in_ok-taken.taken c.receive.new.buffer) c.loop-pieces.wire c.receive.new.self c.loop-pieces.machine c.loop-pieces.invariant (c.in_ok-taken.ensures.came some) (omega (arith, some, size)) in
    piece_finishes g.X.Wire.came g.X.Wire.ends g.X.Wire.went g.X.Wire.silent g.X.Wire.blocked g.M.Machine.answers c.loop-pieces.cutter c.answer_piece.new.cutter (take c.in_ok-taken.taken c.receive.new.buffer) c.in_ok-answer_piece.field-0 c.receive.new.self c.answer_piece.new.wire c.loop-pieces.machine c.answer_piece.new.machine c.in-Ended.is c.in_ok-answer_piece.ensures.talk c.args.wire.now c.args.machine.now (c.loop-pieces._pieces + 1) fed

pub returns-in_err-answer_piece-clause-breaks_off : goal.returns-in_err-answer_piece-clause-breaks_off
returns-in_err-answer_piece-clause-breaks_off g c =
    let some : 0 < c.in_ok-taken.taken = omega (arith, c.if-taken-eq0.false) in
    let size = length-take-le c.in_ok-taken.taken c.receive.new.buffer c.in_ok-taken.ensures.within in
    let fed = piece_came g.X.Wire.came g.X.Wire.ends g.X.Wire.went g.M.Machine.answers c.args.wire.now c.args.machine.now c.loop-pieces._pieces c.loop-pieces.cutter (take c.in_ok-taken.taken c.receive.new.buffer) c.loop-pieces.wire c.receive.new.self c.loop-pieces.machine c.loop-pieces.invariant (c.in_ok-taken.ensures.came some) (omega (arith, some, size)) in
    let p = err_from_is_err_and c.from_residual-in_err-answer_piece.result c.from_residual-in_err-answer_piece.ensures.1 in
    rw (p.1, p.2) (c.in_err-answer_piece.ensures.talk c.args.wire.now c.args.machine.now (c.loop-pieces._pieces + 1) fed)

pub loop-pieces-preserved : goal.loop-pieces-preserved
loop-pieces-preserved g c =
    let some : 0 < c.in_ok-taken.taken = omega (arith, c.if-taken-eq0.false) in
    let size = length-take-le c.in_ok-taken.taken c.receive.new.buffer c.in_ok-taken.ensures.within in
    let fed = piece_came g.X.Wire.came g.X.Wire.ends g.X.Wire.went g.M.Machine.answers c.args.wire.now c.args.machine.now c.loop-pieces._pieces c.loop-pieces.cutter (take c.in_ok-taken.taken c.receive.new.buffer) c.loop-pieces.wire c.receive.new.self c.loop-pieces.machine c.loop-pieces.invariant (c.in_ok-taken.ensures.came some) (omega (arith, some, size)) in
    piece_goes_on g.X.Wire.came g.X.Wire.ends g.X.Wire.went g.X.Wire.silent g.X.Wire.blocked g.M.Machine.answers c.loop-pieces.cutter c.answer_piece.new.cutter (take c.in_ok-taken.taken c.receive.new.buffer) c.in_ok-answer_piece.field-0 c.receive.new.self c.answer_piece.new.wire c.loop-pieces.machine c.answer_piece.new.machine c.in-Running.is c.in_ok-answer_piece.ensures.talk c.args.wire.now c.args.machine.now (c.loop-pieces._pieces + 1) fed
