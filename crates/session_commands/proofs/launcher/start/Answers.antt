use Rattle.std.proofs.Common.{refl}
use Rattle.std.proofs.lemmas.Result.{err_from_is_err_and}
use Rattle.session_commands.specs.Launching.{by_address, by_port, no_memory, no_server, not_joined_at, server_ended}
use Rattle.session_commands.proofs.launcher.start.Goals as goal

pub returns-in_err-command-in-Started-clause-unstarted : goal.returns-in_err-command-in-Started-clause-unstarted
returns-in_err-command-in-Started-clause-unstarted g c =
    let p = err_from_is_err_and c.from_residual.result c.from_residual.ensures.1 in
    rw (p.1, p.2) (no_memory _ _ c.in-Started.is refl)

pub returns-in_err-child-in-Started-clause-unstarted : goal.returns-in_err-child-in-Started-clause-unstarted
returns-in_err-child-in-Started-clause-unstarted g c =
    let command = c.in_ok-command-in-Started.ensures in
    let p = err_from_is_err_and c.from_residual-in_err-child-in-Started.result c.from_residual-in_err-child-in-Started.ensures.1 in
    rw (p.1, p.2)
    (no_server _ _ _ c.in-Started.is (rw (command.program, command.words) at c.in_err-child-in-Started.ensures.serves_not) c.in_err-child-in-Started.ensures.server_gone)

pub returns-in-Ok-clause-started : goal.returns-in-Ok-clause-started
returns-in-Ok-clause-started g c =
    let command = c.in_ok-command-in-Started.ensures in
    by_port _ _ _ _ _ c.in-Started.is (rw (command.program, command.words) at c.in_ok-child-in-Started.ensures.serves) c.in-Ok.ensures.joined

pub returns-in-Started-clause-unstarted : goal.returns-in-Started-clause-unstarted
returns-in-Started-clause-unstarted g c =
    let command = c.in_ok-command-in-Started.ensures in
    server_ended _ _ _ _ _ _ _ _ c.in-Started.is (rw (command.program, command.words) at c.in_ok-child-in-Started.ensures.serves) c.in-Err.ensures.portless c.end.ensures.ended

pub returns-in_err-sides-in-At-clause-unstarted : goal.returns-in_err-sides-in-At-clause-unstarted
returns-in_err-sides-in-At-clause-unstarted g c =
    let p = err_from_is_err_and c.from_residual-in_err-sides-in-At.result c.from_residual-in_err-sides-in-At.ensures.1 in
    rw (p.1, p.2) (not_joined_at _ _ c.in-At.is c.in_err-sides-in-At.ensures.apart)

pub returns-clause-started : goal.returns-clause-started
returns-clause-started g c =
    by_address _ c.in-At.is c.in_ok-sides-in-At.ensures.joined
