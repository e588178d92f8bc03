use Rattle.std.proofs.Common.{refl}
use Rattle.std.proofs.lemmas.Result.{err_from_is_err_and}
use Rattle.session_commands.specs.Door.{nobody_came, not_announced, not_listening, served}
use Rattle.session_commands.proofs.serve.serve.Goals as goal

pub returns-in_err-listener : goal.returns-in_err-listener
returns-in_err-listener g c =
    let p = err_from_is_err_and c.from_residual.result c.from_residual.ensures.1 in
    rw (p.1, p.2) (not_listening _ c.in_err-listener.ensures.listens_not refl c.in_err-listener.ensures.faults)

pub returns-in_err-announce : goal.returns-in_err-announce
returns-in_err-announce g c =
    let p = err_from_is_err_and c.from_residual-in_err-announce.result c.from_residual-in_err-announce.ensures.1 in
    rw (p.1, p.2) (not_announced _ _ _ c.in_ok-listener.ensures.listens c.in_err-announce.ensures.unprinted)

pub returns-in_err-wire : goal.returns-in_err-wire
returns-in_err-wire g c =
    let p = err_from_is_err_and c.from_residual-in_err-wire.result c.from_residual-in_err-wire.ensures.1 in
    rw (p.1, p.2)
    (nobody_came _ _ _ (record { port = c.in_ok-listener.port; listening = c.in_ok-listener.ensures.listens; printed = c.in_ok-announce.ensures.printed })
    c.in_err-wire.ensures.enters_not c.in_err-wire.ensures.faults)

pub returns : goal.returns
returns g c =
    served c.in_ok-listener.listener c.listen.new.self c.in_ok-wire.wire c.play.new.wire c.play.result
    (record { port = c.in_ok-listener.port; listening = c.in_ok-listener.ensures.listens; printed = c.in_ok-announce.ensures.printed })
    c.in_ok-wire.ensures.enters c.play.ensures
