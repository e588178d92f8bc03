use Rattle.std.proofs.Common.{◌≡◌, codes, option_map, rules, string_bytes, subst}
use Rattle.std.proofs.lemmas.Result.{err_from_is_err_and}
use Rattle.session_setup.specs.Logins.{usual}
use Rattle.session_setup.proofs.LoginWords.{file_gives, file_gives_none, open_fails, text_gives, text_gives_none, usual_is_word, variable_fails}
use Rattle.session_setup.proofs.login.password_of.Goals as goal

pub returns-in_err-open-in-File-clause-none : goal.returns-in_err-open-in-File-clause-none
returns-in_err-open-in-File-clause-none g c =
    let p = err_from_is_err_and c.from_residual.result c.from_residual.ensures.1 in
    rw (c.in-File.is, p.1, p.2) (open_fails _ _ _ _ _ _ c.in-File.path _ c.in_err-open-in-File.ensures.failed)

pub returns-in_err-text-in-Variable-clause-none : goal.returns-in_err-text-in-Variable-clause-none
returns-in_err-text-in-Variable-clause-none g c =
    let p = err_from_is_err_and c.from_residual-in_err-text-in-Variable.result c.from_residual-in_err-text-in-Variable.ensures.1 in
    rw (c.in-Variable.is, p.1, p.2) (variable_fails _ _ _ _ _ _ _ c.in_err-text-in-Variable.ensures.failed)

pub returns-in_ok-open-in-File-clause-given : goal.returns-in_ok-open-in-File-clause-given
returns-in_ok-open-in-File-clause-given g c =
    rw c.in-File.is
    (file_gives g.S.Secrets.opens g.S.File.Read.remaining g.S.Secrets.holds c.args.secrets.now c.in-File.path c.in_ok-open-in-File.field-0 (λ w. w.bytes) c.password_in.result
    c.in_ok-open-in-File.ensures.opened c.password_in.ensures.given)

pub returns-in_ok-open-in-File-clause-none : goal.returns-in_ok-open-in-File-clause-none
returns-in_ok-open-in-File-clause-none g c =
    rw c.in-File.is
    (file_gives_none g.S.Secrets.opens g.S.Secrets.opens_not g.S.File.Read.remaining g.S.Secrets.holds g.S.Secrets.holds_no_text c.args.secrets.now c.in-File.path c.in_ok-open-in-File.field-0 c.password_in.result
    c.in_ok-open-in-File.ensures.opened c.password_in.ensures.none)

pub returns-in-Some-clause-given : goal.returns-in-Some-clause-given
returns-in-Some-clause-given g c =
    let held = subst (λ o. g.S.Secrets.holds c.args.secrets.now (option_map string_bytes o)) c.in-Some.is c.in_ok-text-in-Variable.ensures.held in
    rw (c.in-Variable.is, c.ok_or.ensures.value)
    (text_gives g.S.Secrets.opens g.S.File.Read.remaining g.S.Secrets.holds c.args.secrets.now (λ w. w.bytes) (string_bytes c.in-Some.text) c.as_bytes.result.now c.credential.result
    held c.as_bytes.ensures.value c.credential.ensures)

pub returns-in-Some-clause-none : goal.returns-in-Some-clause-none
returns-in-Some-clause-none g c =
    let held = subst (λ o. g.S.Secrets.holds c.args.secrets.now (option_map string_bytes o)) c.in-Some.is c.in_ok-text-in-Variable.ensures.held in
    rw (c.in-Variable.is, c.ok_or.ensures.value)
    (text_gives_none g.S.Secrets.opens g.S.Secrets.opens_not g.S.File.Read.remaining g.S.Secrets.holds g.S.Secrets.holds_no_text c.args.secrets.now (λ w. w.bytes) (string_bytes c.in-Some.text) c.as_bytes.result.now c.credential.result
    held c.as_bytes.ensures.value c.credential.ensures)

pub returns-in-None-clause-given : goal.returns-in-None-clause-given
returns-in-None-clause-given g c =
    let held = subst (λ o. g.S.Secrets.holds c.args.secrets.now (option_map string_bytes o)) c.in-None.is c.in_ok-text-in-Variable.ensures.held in
    let word : c.unwrap.result.bytes ≡ codes "pw" = search rules in
    rw (c.in-Variable.is, word) (usual_is_word, usual held)
