use Rattle.std.proofs.Common.{refl}
use Rattle.shogi_session.specs.Phases.{match_in}
use Rattle.shogi_session.proofs.GameEnds.{move_time}
use Rattle.shogi_session.proofs.PlayRows.{answers_so, confirmed, keeps_confirmed, move_refused, move_unsent, text_refused}
use Rattle.shogi_session.proofs.PositionRead.{otherwise}
use Rattle.shogi_session.proofs.in_play.take_move.Goals as goal

pub returns-in-Err-clause-answer : goal.returns-in-Err-clause-answer
returns-in-Err-clause-answer c =
    text_refused _ _ c.args.play.now c.args.line.now c.in-Err.fault _ c.refuse.result c.requires.on c.requires.from_a_sign c.in-Err.ensures refl
    c.refuse.ensures.engine c.refuse.ensures.server c.refuse.ensures.status

pub confirm-requires-clause-may : goal.confirm-requires-clause-may
confirm-requires-clause-may c =
    answers_so (match_in c.args.play.now) c.line.result.now c.in-Ok.stated.0 c.in-Ok.stated.1 c.fault.result _ c.line.ensures.value c.in-None.is c.fault.ensures.answer

pub confirm-requires-clause-time : goal.confirm-requires-clause-time
confirm-requires-clause-time c = move_time c.args.line.now c.in-Ok.stated.0 (record { move = c.in-Ok.stated.1; time = c.in-Ok.stated.2 }) c.in-Ok.ensures

pub returns-in-Some-clause-answer : goal.returns-in-Some-clause-answer
returns-in-Some-clause-answer c =
    move_refused _ _ c.args.play.now c.args.line.now c.in-Ok.stated.0 (record { move = c.in-Ok.stated.1; time = c.in-Ok.stated.2 }) c.in-Some.fault c.from.result
    c.refuse-in-Some.result c.requires.on c.requires.from_a_sign c.in-Ok.ensures
    (answers_so (match_in c.args.play.now) c.line.result.now c.in-Ok.stated.0 c.in-Ok.stated.1 c.fault.result _ c.line.ensures.value c.in-Some.is c.fault.ensures.answer)
    c.from.ensures c.refuse-in-Some.ensures.engine c.refuse-in-Some.ensures.server c.refuse-in-Some.ensures.status

pub returns-then-is_expected-clause-keeps : goal.returns-then-is_expected-clause-keeps
returns-then-is_expected-clause-keeps c =
    keeps_confirmed _ _ _ c.args.play.now c.confirm.new.play c.in-Ok.stated.0 (record { move = c.in-Ok.stated.1; time = c.in-Ok.stated.2 }) c.confirm.result
    c.requires.on c.requires.play
    (answers_so (match_in c.args.play.now) c.line.result.now c.in-Ok.stated.0 c.in-Ok.stated.1 c.fault.result _ c.line.ensures.value c.in-None.is c.fault.ensures.answer)
    c.confirm.ensures

pub returns-then-is_expected-clause-answer : goal.returns-then-is_expected-clause-answer
returns-then-is_expected-clause-answer c =
    confirmed _ _ _ c.args.play.now c.confirm.new.play c.args.line.now c.in-Ok.stated.0 (record { move = c.in-Ok.stated.1; time = c.in-Ok.stated.2 }) c.confirm.result
    c.requires.on c.requires.play c.requires.from_a_sign c.in-Ok.ensures
    (answers_so (match_in c.args.play.now) c.line.result.now c.in-Ok.stated.0 c.in-Ok.stated.1 c.fault.result _ c.line.ensures.value c.in-None.is c.fault.ensures.answer)
    ((c.is_expected.ensures c.in-Ok.stated.2).0 c.if-is_expected.true) c.confirm.ensures

pub returns-else-is_expected-clause-answer : goal.returns-else-is_expected-clause-answer
returns-else-is_expected-clause-answer c =
    move_unsent _ _ c.args.play.now c.args.line.now c.in-Ok.stated.0 (record { move = c.in-Ok.stated.1; time = c.in-Ok.stated.2 }) c.failed.result
    c.requires.on c.requires.from_a_sign c.in-Ok.ensures
    (answers_so (match_in c.args.play.now) c.line.result.now c.in-Ok.stated.0 c.in-Ok.stated.1 c.fault.result _ c.line.ensures.value c.in-None.is c.fault.ensures.answer)
    (otherwise _ _ c.if-is_expected.false (c.is_expected.ensures c.in-Ok.stated.2))
    c.failed.ensures.engine c.failed.ensures.server c.failed.ensures.status
