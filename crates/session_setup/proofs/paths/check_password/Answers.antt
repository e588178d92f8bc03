use Rattle.std.proofs.lemmas.Result.{err_from_is_err_and}
use Rattle.session_setup.specs.Paths.{overwrites, password_path}
use Rattle.session_setup.proofs.paths.check_password.Goals as goal

pub returns-in_err-apart-in-File-clause-fault : goal.returns-in_err-apart-in-File-clause-fault
returns-in_err-apart-in-File-clause-fault c =
    let p = err_from_is_err_and c.from_residual.result c.from_residual.ensures.1 in
    let h = c.in_err-apart-in-File.ensures.overwrites in
    rw (p.1, p.2, h.2) (overwrites h.0 _ _ (password_path c.in-File.path c.in-File.is) h.1)
