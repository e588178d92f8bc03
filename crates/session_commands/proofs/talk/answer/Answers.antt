use Rattle.std.proofs.Common.{refl}
use Rattle.std.proofs.lemmas.Result.{err_from_is_err_and}
use Rattle.session_commands.specs.Talks.{no_answer, not_sent}
use Rattle.session_commands.proofs.talk.answer.Goals as goal

pub returns-in_default-clause-unsent : goal.returns-in_default-clause-unsent
returns-in_default-clause-unsent g c = no_answer refl

pub returns-in_err-send-clause-unsent : goal.returns-in_err-send-clause-unsent
returns-in_err-send-clause-unsent g c =
    let p = err_from_is_err_and c.from_residual.result c.from_residual.ensures.1 in
    rw (p.1, p.2) (not_sent _ _ _ c.in-Ok.ensures.answer (rw (← c.bytes.ensures.value) c.in_err-send.ensures.blocked))

pub returns-clause-replied : goal.returns-clause-replied
returns-clause-replied g c = (_, rw c.state_of.ensures c.in-Ok.ensures.answer, rw c.bytes.ensures.value at c.in_ok-send.ensures.went)
