use Rattle.std.proofs.lemmas.Result.{err_from_is_err_and}
use Rattle.session_commands.specs.Launching.{no_address, no_port}
use Rattle.session_commands.proofs.Joining.{if_ok, portless}
use Rattle.session_commands.proofs.launcher.join_by_port.Goals as goal

pub returns-in_err-port-clause-portless : goal.returns-in_err-port-clause-portless
returns-in_err-port-clause-portless g c =
    let p = err_from_is_err_and c.from_residual.result c.from_residual.ensures.1 in
    rw (p.1, p.2) (no_port _ c.in_err-port.ensures.silent)

pub returns-in_err-address-clause-portless : goal.returns-in_err-address-clause-portless
returns-in_err-address-clause-portless g c =
    let p = err_from_is_err_and c.from_residual-in_err-address.result c.from_residual-in_err-address.ensures.1 in
    rw (p.1, p.2) (no_address c.in_ok-port.ensures.stated.1)

pub returns-clause-portless : goal.returns-clause-portless
returns-clause-portless g c =
    let stated = c.in_ok-port.ensures.stated in
    portless _ _ _ _ _ _ _ _ _ c.in_ok-port.port c.join.result stated.0
    (rw (c.as_str.ensures.value, c.in_ok-address.ensures, stated.1) at c.join.ensures.apart)

pub returns-clause-joined : goal.returns-clause-joined
returns-clause-joined g c =
    let stated = c.in_ok-port.ensures.stated in
    if_ok c.join.result _ _ (rw (c.as_str.ensures.value, c.in_ok-address.ensures, stated.1) at c.join.ensures.joined)
    (λ r h. record { port = c.in_ok-port.port; says = stated.0; joined = h })
