use Rattle.std.proofs.lemmas.Result.{err_from_is_err_and}
use Rattle.session_commands.specs.Runs.{other, unsound}
use Rattle.session_commands.proofs.Runs.{fault_of_run, match_missed, no_port_missed}
use Rattle.session_commands.proofs.play.run.Goals as goal

pub returns-in_err-check-clause-fault : goal.returns-in_err-check-clause-fault
returns-in_err-check-clause-fault g c =
    let p = err_from_is_err_and c.from_residual.result c.from_residual.ensures.1 in
    rw (p.1, p.2) (unsound _ c.in_err-check.ensures.fault)

pub returns-in_err-search_path-clause-fault : goal.returns-in_err-search_path-clause-fault
returns-in_err-search_path-clause-fault g c =
    let p = err_from_is_err_and c.from_residual-in_err-search_path.result c.from_residual-in_err-search_path.ensures.1 in
    rw (p.1, p.2) (other _ c.in_ok-check.ensures.sound (match_missed _))

pub returns-in_err-check_files-clause-fault : goal.returns-in_err-check_files-clause-fault
returns-in_err-check_files-clause-fault g c =
    let p = err_from_is_err_and c.from_residual-in_err-check_files.result c.from_residual-in_err-check_files.ensures.1 in
    rw (p.1, p.2) (other _ c.in_ok-check.ensures.sound (no_port_missed _ c.in_err-check_files.ensures.fault))

pub returns-clause-fault : goal.returns-clause-fault
returns-clause-fault g c = fault_of_run c.args.plan.now c.play_checked.result c.in_ok-check.ensures.sound c.play_checked.ensures.fault
