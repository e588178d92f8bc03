use Rattle.std.proofs.Common.{refl}
use Rattle.std.proofs.lemmas.Result.{err_from_is_err_and}
use Rattle.session_commands.specs.Launching.{no_game, no_log}
use Rattle.session_commands.proofs.launcher.LocalLauncher.start.Goals as goal

pub returns-in_err-log-clause-unstarted : goal.returns-in_err-log-clause-unstarted
returns-in_err-log-clause-unstarted g c =
    let p = err_from_is_err_and c.from_residual.result c.from_residual.ensures.1 in
    rw (p.1, p.2) (no_log _ c.in_err-log.ensures.logs_not c.in_err-log.ensures.faults)

pub returns-in-Ok-clause-started : goal.returns-in-Ok-clause-started
returns-in-Ok-clause-started g c = (record { between = c.make_log.new.self; made = c.in_ok-log.ensures.logs; started = c.in-Ok.ensures.started }, refl)

pub returns-in-Err-clause-unstarted : goal.returns-in-Err-clause-unstarted
returns-in-Err-clause-unstarted g c = no_game _ _ c.in_ok-log.ensures.logs c.in-Err.ensures.unstarted
