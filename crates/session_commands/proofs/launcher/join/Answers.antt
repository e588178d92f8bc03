use Rattle.std.proofs.lemmas.Result.{err_from_is_err_and}
use Rattle.session_commands.specs.Launching.{no_connection, no_engine, no_words}
use Rattle.session_commands.proofs.launcher.join.Goals as goal

pub returns-in_err-server-clause-apart : goal.returns-in_err-server-clause-apart
returns-in_err-server-clause-apart g c =
    let p = err_from_is_err_and c.from_residual.result c.from_residual.ensures.1 in
    rw (p.1, p.2) (no_connection _ c.in_err-server.ensures.connects_not c.in_err-server.ensures.server_gone)

pub returns-in_err-command-clause-apart : goal.returns-in_err-command-clause-apart
returns-in_err-command-clause-apart g c =
    let p = err_from_is_err_and c.from_residual-in_err-command.result c.from_residual-in_err-command.ensures.1 in
    rw (p.1, p.2) (no_words _ _ c.in_ok-server.ensures.connects)

pub returns-in_err-child-clause-apart : goal.returns-in_err-child-clause-apart
returns-in_err-child-clause-apart g c =
    let command = c.in_ok-command.ensures in
    let p = err_from_is_err_and c.from_residual-in_err-child.result c.from_residual-in_err-child.ensures.1 in
    rw (p.1, p.2)
    (no_engine _ _ _ _ c.in_ok-server.ensures.connects (rw (command.program, command.words) at c.in_err-child.ensures.thinks_not) c.in_err-child.ensures.engine_gone)

pub returns-clause-joined : goal.returns-clause-joined
returns-clause-joined g c =
    let command = c.in_ok-command.ensures in
    record {
      between = c.connect.new.self;
      connected = c.in_ok-server.ensures.connects;
      started = rw (command.program, command.words) at c.in_ok-child.ensures.thinks;
    }
