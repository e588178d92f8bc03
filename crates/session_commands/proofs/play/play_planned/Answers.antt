use Rattle.std.proofs.Common.{refl}
use Rattle.std.proofs.lemmas.Result.{err_from_is_err_and}
use Rattle.session_commands.specs.Playing.{failed_to_play, not_begun, played}
use Rattle.session_commands.proofs.play.play_planned.Goals as goal

pub returns-in_err-login : goal.returns-in_err-login
returns-in_err-login g c =
    let p = err_from_is_err_and c.from_residual.result c.from_residual.ensures.1 in
    rw (p.1, p.2) (not_begun _ c.in_err-login.ensures.none (refl, refl, refl))

pub returns-in_err-report : goal.returns-in_err-report
returns-in_err-report g c =
    let p = err_from_is_err_and c.from_residual-in_err-report.result c.from_residual-in_err-report.ensures.1 in
    rw (p.1, p.2) (failed_to_play c.in_ok-login.login _ c.in_ok-login.ensures.login c.in_err-report.ensures)

pub returns : goal.returns
returns g c = played c.in_ok-login.login _ c.in_ok-login.ensures.login c.in_ok-report.ensures
