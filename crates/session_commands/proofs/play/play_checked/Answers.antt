use Rattle.std.proofs.lemmas.Result.{err_from_is_err_and}
use Rattle.session_commands.specs.Playing.{fault_noted, fault_unnoted, no_fault}
use Rattle.session_commands.proofs.Runs.{no_plan_fault}
use Rattle.session_commands.proofs.play.play_checked.Goals as goal

pub returns-in-Ok-clause-noted : goal.returns-in-Ok-clause-noted
returns-in-Ok-clause-noted g c = no_fault _ (rw c.in-Ok.is at c.play_planned.ensures)

pub returns-in_err-note_fault-in-Err-clause-noted : goal.returns-in_err-note_fault-in-Err-clause-noted
returns-in_err-note_fault-in-Err-clause-noted g c =
    let p = err_from_is_err_and c.from_residual.result c.from_residual.ensures.1 in
    rw (p.1, p.2) (fault_unnoted _ _ _ (rw c.in-Err.is at c.play_planned.ensures) c.in_err-note_fault-in-Err.ensures.unnoted c.in_err-note_fault-in-Err.ensures.faults)

pub returns-in_ok-note_fault-in-Err-clause-noted : goal.returns-in_ok-note_fault-in-Err-clause-noted
returns-in_ok-note_fault-in-Err-clause-noted g c = fault_noted _ _ (rw c.in-Err.is at c.play_planned.ensures) c.in_ok-note_fault-in-Err.ensures.noted

pub returns-in_ok-note_fault-in-Err-clause-fault : goal.returns-in_ok-note_fault-in-Err-clause-fault
returns-in_ok-note_fault-in-Err-clause-fault g c = rw c.in-Err.is at (no_plan_fault _ c.play_planned.ensures)
