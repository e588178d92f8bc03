use Rattle.std.proofs.Common.{refl}
use Rattle.std.proofs.lemmas.Result.{err_from_is_err_and}
use Rattle.session_commands.specs.Ports.{long_line, no_line, no_memory, other_line}
use Rattle.session_commands.proofs.launcher.stated_port.Goals as goal

pub returns-in_err-port-clause-silent : goal.returns-in_err-port-clause-silent
returns-in_err-port-clause-silent g c =
    let p = err_from_is_err_and c.from_residual.result c.from_residual.ensures.1 in
    rw (p.1, p.2) (no_memory refl)

pub returns-in-Port-clause-stated : goal.returns-in-Port-clause-stated
returns-in-Port-clause-stated g c =
    let first = rw c.in-Port.is at c.in_ok-port.ensures.first in
    ((c.first_line.new.lines.bytes, first.0, first.1, first.2), refl)

pub returns-in_err-reason-in-Other-clause-silent : goal.returns-in_err-reason-in-Other-clause-silent
returns-in_err-reason-in-Other-clause-silent g c =
    let p = err_from_is_err_and c.from_residual-in_err-reason-in-Other.result c.from_residual-in_err-reason-in-Other.ensures.1 in
    rw (p.1, p.2) (no_memory refl)

pub returns-in_ok-reason-in-Other-clause-silent : goal.returns-in_ok-reason-in-Other-clause-silent
returns-in_ok-reason-in-Other-clause-silent g c =
    let first = rw c.in-Other.is at c.in_ok-port.ensures.first in
    other_line first.0 first.1 (rw (c.as_str.ensures.value, c.in_ok-reason-in-Other.ensures, c.line.ensures.value) at c.explain.ensures.explained)

pub returns-in-Long-clause-silent : goal.returns-in-Long-clause-silent
returns-in-Long-clause-silent g c =
    let first = rw c.in-Long.is at c.in_ok-port.ensures.first in
    long_line first c.explain-in-Long.ensures.explained

pub returns-in-Missing-clause-silent : goal.returns-in-Missing-clause-silent
returns-in-Missing-clause-silent g c =
    let first = rw c.in-Missing.is at c.in_ok-port.ensures.first in
    no_line first c.explain-in-Missing.ensures.explained
