use Rattle.std.proofs.Common.{ap, subst, ◌∙◌}
use Rattle.session_commands.specs.Endings.{Ended}
use Rattle.session_commands.specs.Noting.{IsKeptOf}
use Rattle.shogi_session.specs.Promises.{event_of}
use Rattle.session_commands.specs.Plays.{event_from}
use Rattle.session_commands.proofs.Playing.{comes_next, same_step, steps_of}
use Rattle.session_commands.proofs.LackOfMemory.{peer_not_stepped, step_runs_out}
use Rattle.session_setup.proofs.Replacing.{at_err}
use Rattle.session_commands.proofs.bridging.step_next.Goals as goal

pub returns-clause-came : goal.returns-clause-came
returns-clause-came g c =
    let step = c.in_ok-out.ensures in
    let out = c.in_ok-out.out in
    let peer = c.peer_of-peer.result in
    let what = c.in_ok-read.read in
    let line = g.E.Ends.last_line c.receive.new.self peer in
    let event = event_of c.event.result in
    let row = steps_of c.args.bridge.now event out.to_engine out.to_server out.status c.step.new.self step.row step.to_engine step.to_server step.status step.config in
    comes_next g.E.Ends.came c.args.ends.now c.args.bridge.now c.args.progress.now.ended peer c.waits_for.result what line c.receive.new.self out.to_engine out.to_server out.status c.step.new.self c.keep_end.new.progress.ended c.of-before.result c.of-after.result
    c.peer_of-peer.ensures c.waits_for.ensures.value c.in_ok-read.ensures.came
    (same_step c.args.bridge.now event (event_from peer what line) out.to_engine out.to_server out.status c.step.new.self
    (c.event.ensures.event ∙ ap (event_from peer what) c.line-line.ensures.value) row)
    (record { client = c.of-before.ensures.client; slip = c.of-before.ensures.slip; summary_fault = c.of-before.ensures.summary })
    (record { client = c.of-after.ensures.client; slip = c.of-after.ensures.slip; summary_fault = c.of-after.ensures.summary })
    (subst (λ (old : Ended). IsKeptOf c.of-before.result c.of-after.result line peer out.status old c.keep_end.new.progress.ended what) c.show_move.ensures c.keep_end.ensures)

pub returns-in_err-out-clause-out_of_memory : goal.returns-in_err-out-clause-out_of_memory
returns-in_err-out-clause-out_of_memory g c =
    let step = c.in_err-out.ensures in
    let peer = c.peer_of-peer.result in
    let what = c.in_ok-read.read in
    let event = event_of c.event.result in
    let arrived = event_from peer what (g.E.Ends.last_line c.receive.new.self peer) in
    at_err _ c.from_residual-in_err-out.result
    (peer_not_stepped g.E.Ends.came g.E.Ends.missed c.args.ends.now c.args.bridge.now peer c.waits_for.result arrived c.receive.new.self c.step.new.self
    c.peer_of-peer.ensures c.waits_for.ensures.value c.in_ok-read.ensures.came
    (step_runs_out c.args.bridge.now event arrived c.step.new.self (c.event.ensures.event ∙ ap (event_from peer what) c.line-line.ensures.value)
    step.going step.lost step.config step.states step.slip step.game))
