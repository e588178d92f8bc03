use Rattle.session_setup.proofs.LoginWords.{is_text}
use Rattle.session_setup.proofs.login.credential.Goals as goal

pub returns-in-Err : goal.returns-in-Err
returns-in-Err c = λ word. c.in-Err.ensures.cases.0 (is_text c.args.bytes.now word)
