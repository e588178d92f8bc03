use Rattle.std.proofs.lemmas.Result.{err_from_is_err_and}
use Rattle.session_setup.specs.Paths.{engine_program, log_is_record, overwrites}
use Rattle.session_setup.proofs.Planning.{all_apart, unless}
use Rattle.session_setup.proofs.paths.check.Goals as goal

pub returns-then-log_takes-clause-fault : goal.returns-then-log_takes-clause-fault
returns-then-log_takes-clause-fault c = log_is_record (c.log_takes.ensures.0 c.if-log_takes.true)

pub returns-in_err-check_password-clause-fault : goal.returns-in_err-check_password-clause-fault
returns-in_err-check_password-clause-fault c =
    let p = err_from_is_err_and c.from_residual.result c.from_residual.ensures.1 in
    rw (p.1, p.2) c.in_err-check_password.ensures.fault

pub returns-in_err-apart-clause-fault : goal.returns-in_err-apart-clause-fault
returns-in_err-apart-clause-fault c =
    let p = err_from_is_err_and c.from_residual-in_err-apart.result c.from_residual-in_err-apart.ensures.1 in
    let h = c.in_err-apart.ensures.overwrites in
    rw (p.1, p.2, h.2) (overwrites h.0 _ _ engine_program h.1)

pub returns-in_err-check_server-clause-fault : goal.returns-in_err-check_server-clause-fault
returns-in_err-check_server-clause-fault c =
    let p = err_from_is_err_and c.from_residual-in_err-check_server.result c.from_residual-in_err-check_server.ensures.1 in
    rw (p.1, p.2) c.in_err-check_server.ensures.fault

pub returns-clause-sound : goal.returns-clause-sound
returns-clause-sound c = record {
  record_apart = unless c.log_takes.result c.log_takes.ensures c.if-log_takes.false;
  needed_apart = all_apart c.args.plan.now c.in_ok-apart.ensures.apart c.in_ok-check_server.ensures.apart c.in_ok-check_password.ensures.apart;
  has_port = c.in_ok-check_server.ensures.port;
}
