use Rattle.shogi_session.specs.Events.{begin}
use Rattle.bridge_table.specs.declared.event.Status.TheVariants.{Done, Failed, Going, Lost}
use Rattle.std.proofs.Common.{◌≤◌, ◌-◌, ◌^◌, ap, arith, refl, ◌∙◌}
use Rattle.session_commands.proofs.Playing.{endless_noted, first, round_begun, round_sent, same_session_fault, steps_of}
use Rattle.session_commands.proofs.LackOfMemory.{not_next, rounds_lost, step_runs_out, unsent}
use Rattle.session_commands.specs.LackOfMemory.{not_begun}
use Rattle.session_commands.proofs.bridging.play.Goals as goal

pub loop-rounds-init : goal.loop-rounds-init
loop-rounds-init g c =
    let step = c.in_ok-out.ensures in
    let out = c.in_ok-out.out in
    first c.step.new.self (steps_of c.args.bridge.now begin out.to_engine out.to_server out.status c.step.new.self step.row step.to_engine step.to_server step.status step.config)

pub returns-in-Done-clause-done : goal.returns-in-Done-clause-done
returns-in-Done-clause-done g c =
    let l = c.loop-rounds in
    (round_sent g.E.Ends.came g.E.Ends.went g.E.Ends.gone c.args.ends.now c.args.bridge.now c.args.progress.now.ended l.out.to_engine l.out.to_server l.out.status l._rounds l.ends l.bridge l.progress.ended c.send.new.ends c.send.new.bridge c.in_ok-send.field-0 Done c.in-Done.is l.invariant c.in_ok-send.ensures.sent).noted

pub returns-in-Failed-clause-failed : goal.returns-in-Failed-clause-failed
returns-in-Failed-clause-failed g c = λ fault same.
    let l = c.loop-rounds in
    (round_sent g.E.Ends.came g.E.Ends.went g.E.Ends.gone c.args.ends.now c.args.bridge.now c.args.progress.now.ended l.out.to_engine l.out.to_server l.out.status l._rounds l.ends l.bridge l.progress.ended c.send.new.ends c.send.new.bridge c.in_ok-send.field-0 (Failed fault) (c.in-Failed.is ∙ ap Failed (same_session_fault c.in-Failed.fault fault same)) l.invariant c.in_ok-send.ensures.sent).noted

pub loop-rounds-preserved : goal.loop-rounds-preserved
loop-rounds-preserved g c =
    let l = c.loop-rounds in
    let played = round_sent g.E.Ends.came g.E.Ends.went g.E.Ends.gone c.args.ends.now c.args.bridge.now c.args.progress.now.ended l.out.to_engine l.out.to_server l.out.status l._rounds l.ends l.bridge l.progress.ended c.send.new.ends c.send.new.bridge c.in_ok-send.field-0 Going c.in-Going.is l.invariant c.in_ok-send.ensures.sent in
    let out = c.in_ok-out-2.out in
    round_begun g.E.Ends.came g.E.Ends.went g.E.Ends.gone c.args.ends.now c.args.bridge.now c.args.progress.now.ended l._rounds c.send.new.ends c.send.new.bridge l.progress.ended out.to_engine out.to_server out.status c.step_next.new.ends c.step_next.new.bridge c.step_next.new.progress.ended played c.in_ok-out-2.ensures.came

pub returns-in_err-send-clause-out_of_memory : goal.returns-in_err-send-clause-out_of_memory
returns-in_err-send-clause-out_of_memory g c = λ is.
    let l = c.loop-rounds in
    unsent g.E.Ends.came g.E.Ends.missed g.E.Ends.went g.E.Ends.gone c.args.ends.now c.args.bridge.now c.args.progress.now.ended l.out.to_engine l.out.to_server l.out.status l._rounds l.ends l.bridge l.progress.ended c.send.new.ends c.send.new.bridge l.invariant c.in_err-send.ensures.out_of_memory

pub returns-clause-endless : goal.returns-clause-endless
returns-clause-endless g c = λ is.
    let l = c.loop-rounds in
    let many : 2 ^ 64 - 1 ≤ l._rounds = omega (arith, c.loop-rounds-test.false) in
    endless_noted g.E.Ends.came g.E.Ends.went g.E.Ends.gone c.args.ends.now c.args.bridge.now c.args.progress.now.ended l.out.to_engine l.out.to_server l.out.status l._rounds l.ends l.bridge l.progress.ended l.invariant many

pub returns-in_err-out-clause-out_of_memory : goal.returns-in_err-out-clause-out_of_memory
returns-in_err-out-clause-out_of_memory g c = λ is.
    let step = c.in_err-out.ensures in
    record {
      lack = not_begun refl (step_runs_out c.args.bridge.now begin begin c.step.new.self refl step.going step.lost step.config step.states step.slip step.game);
      kept = refl;
    }

pub returns-in-Lost-clause-out_of_memory : goal.returns-in-Lost-clause-out_of_memory
returns-in-Lost-clause-out_of_memory g c = λ is.
    let l = c.loop-rounds in
    rounds_lost g.E.Ends.came g.E.Ends.missed g.E.Ends.went g.E.Ends.gone c.args.ends.now c.args.bridge.now c.args.progress.now.ended l._rounds c.send.new.ends c.send.new.bridge l.progress.ended
    (round_sent g.E.Ends.came g.E.Ends.went g.E.Ends.gone c.args.ends.now c.args.bridge.now c.args.progress.now.ended l.out.to_engine l.out.to_server l.out.status l._rounds l.ends l.bridge l.progress.ended c.send.new.ends c.send.new.bridge c.in_ok-send.field-0 Lost c.in-Lost.is l.invariant c.in_ok-send.ensures.sent)

pub returns-in_err-out-2-clause-out_of_memory : goal.returns-in_err-out-2-clause-out_of_memory
returns-in_err-out-2-clause-out_of_memory g c = λ is.
    let l = c.loop-rounds in
    let played = round_sent g.E.Ends.came g.E.Ends.went g.E.Ends.gone c.args.ends.now c.args.bridge.now c.args.progress.now.ended l.out.to_engine l.out.to_server l.out.status l._rounds l.ends l.bridge l.progress.ended c.send.new.ends c.send.new.bridge c.in_ok-send.field-0 Going c.in-Going.is l.invariant c.in_ok-send.ensures.sent in
    not_next g.E.Ends.came g.E.Ends.missed g.E.Ends.went g.E.Ends.gone c.args.ends.now c.args.bridge.now c.args.progress.now.ended l._rounds c.send.new.ends c.send.new.bridge l.progress.ended c.step_next.new.ends c.step_next.new.bridge c.step_next.new.progress.ended played c.in_err-out-2.ensures.out_of_memory c.in_err-out-2.ensures.kept
