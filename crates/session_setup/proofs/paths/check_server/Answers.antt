use Rattle.std.proofs.lemmas.Result.{err_from_is_err_and}
use Rattle.session_setup.specs.Paths.{no_port, overwrites, server_program}
use Rattle.session_setup.proofs.Planning.{unless}
use Rattle.session_setup.proofs.paths.check_server.Goals as goal

pub returns-in_err-apart-in-Started-clause-fault : goal.returns-in_err-apart-in-Started-clause-fault
returns-in_err-apart-in-Started-clause-fault c =
    let p = err_from_is_err_and c.from_residual.result c.from_residual.ensures.1 in
    let h = c.in_err-apart-in-Started.ensures.overwrites in
    rw (p.1, p.2, h.2) (overwrites h.0 _ _ (server_program _ _ c.in-Started.is) h.1)

pub returns-then-not-has_port-clause-fault : goal.returns-then-not-has_port-clause-fault
returns-then-not-has_port-clause-fault c = no_port c.in-At.address c.in-At.is (unless _ c.has_port.ensures c.if-not-has_port.true)
