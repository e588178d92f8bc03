use Rattle.std.proofs.Common.{refl}
use Rattle.std.proofs.lemmas.Result.{err_from_is_err_and}
use Rattle.session_commands.specs.Door.{no_host}
use Rattle.session_commands.proofs.Serving.{has_served}
use Rattle.session_commands.proofs.serve.play.Goals as goal

pub returns-in_err-host : goal.returns-in_err-host
returns-in_err-host g c =
    let p = err_from_is_err_and c.from_residual.result c.from_residual.ensures.1 in
    rw (p.1, p.2) (no_host refl)

pub returns : goal.returns
returns g c =
    has_served g.X.Wire.came g.X.Wire.ends g.X.Wire.went g.X.Wire.silent g.X.Wire.blocked _ c.args.service c.args.wire.now c.answer_all.new.wire
    c.in_ok-host.host c.answer_all.new.machine c.answer_all.result c.served.result c.served.ensures.over c.served.ensures.gone c.served.ensures.broken
    c.in_ok-host.ensures.host c.answer_all.ensures.answered c.answer_all.ensures.breaks_off
