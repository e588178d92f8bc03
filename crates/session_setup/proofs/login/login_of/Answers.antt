use Rattle.std.proofs.Common.{subst}
use Rattle.std.proofs.lemmas.Result.{err_from_is_err_and}
use Rattle.session_setup.specs.Logins.{bad_name, no_password}
use Rattle.host_and_sample.specs.Host.{IsLoginWord}
use Rattle.session_setup.proofs.login.login_of.Goals as goal

pub returns-in_default-clause-none : goal.returns-in_default-clause-none
returns-in_default-clause-none g c = bad_name (subst (λ t. IsLoginWord t → ⊥) c.as_bytes.ensures.value c.in_default.ensures)

pub returns-in_err-password-clause-none : goal.returns-in_err-password-clause-none
returns-in_err-password-clause-none g c =
    let p = err_from_is_err_and c.from_residual.result c.from_residual.ensures.1 in
    let name = subst IsLoginWord c.as_bytes.ensures.value c.in-Some.ensures.0 in
    rw (p.1, p.2) (no_password _ name c.in_err-password.ensures.none)
