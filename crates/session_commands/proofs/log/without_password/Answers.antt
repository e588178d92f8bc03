use Rattle.std.proofs.Common.{◌≡◌, ◌++◌, rules}
use Rattle.session_lines.specs.LineTexts.{login_front}
use Rattle.session_commands.proofs.LogTexts.{login_if_ok}
use Rattle.session_commands.proofs.log.without_password.Goals as goal

pub returns-in-Some : goal.returns-in-Some
returns-in-Some c =
    let is : c.args.lines.now ≡ login_front ++ c.in-Some.rest.now = search rules in
    login_if_ok (λ v. v.items) c.hidden_login.result c.args.lines.now c.in-Some.rest.now is c.hidden_login.ensures
