use Rattle.std.proofs.Common.{◌≡◌, arith, length, refl}
use Rattle.std.proofs.lemmas.List.{nil_from_length}
use Rattle.shogi_session.specs.Promises.{event_of}
use Rattle.session_commands.specs.Plays.{end_of, lost, no_lines, taken}
use Rattle.session_commands.proofs.Playing.{same_step, steps_of}
use Rattle.session_commands.proofs.LackOfMemory.{step_runs_out}
use Rattle.session_setup.proofs.Replacing.{at_err}
use Rattle.session_commands.proofs.bridging.deliver.Goals as goal

pub returns-then-is_empty-clause-delivered : goal.returns-then-is_empty-clause-delivered
returns-then-is_empty-clause-delivered g c =
    let none : length c.args.lines.now ≡ 0 = grind (arith, c.if-is_empty.ensures) in
    no_lines (nil_from_length c.args.lines.now none) refl refl

pub returns-in-Ok-clause-delivered : goal.returns-in-Ok-clause-delivered
returns-in-Ok-clause-delivered g c = taken (c.in-Ok.ensures.went) refl

pub returns-in_ok-step-in-Err-clause-delivered : goal.returns-in_ok-step-in-Err-clause-delivered
returns-in_ok-step-in-Err-clause-delivered g c =
    let step = c.in_ok-step-in-Err.ensures in
    let out = c.in_ok-step-in-Err.field-0 in
    let row = steps_of c.args.bridge.now (event_of c.end_event.result) out.to_engine out.to_server out.status c.step.new.self step.row step.to_engine step.to_server step.status step.config in
    lost out.to_engine out.to_server out.status (c.in-Err.ensures.gone)
    (same_step c.args.bridge.now (event_of c.end_event.result) (end_of c.args.peer) out.to_engine out.to_server out.status c.step.new.self c.end_event.ensures row)

pub returns-in_err-step-in-Err-clause-out_of_memory : goal.returns-in_err-step-in-Err-clause-out_of_memory
returns-in_err-step-in-Err-clause-out_of_memory g c =
    let step = c.in_err-step-in-Err.ensures in
    at_err _ c.from_residual.result (
      c.in-Err.ensures.gone,
      step_runs_out c.args.bridge.now (event_of c.end_event.result) (end_of c.args.peer) c.step.new.self c.end_event.ensures step.going step.lost step.config step.states step.slip step.game,
    )
